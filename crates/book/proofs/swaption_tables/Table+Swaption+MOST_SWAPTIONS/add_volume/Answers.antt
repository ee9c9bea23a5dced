use Rattle.book.proofs.swaption_tables.Table+Swaption+MOST_SWAPTIONS.add_volume.Goals as goal

pub with_volume-row-requires : goal.with_volume-row-requires
with_volume-row-requires c = rw (c.row.ensures c.row.result) (c.requires.capped c.row.result)
