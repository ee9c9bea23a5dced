use Rattle.std.proofs.Common.{◌≡◌, pos, ◌-ℤ◌, neg_ℤ, arith, w64, SFits, to_z, of_z, rules}
use Rattle.std.proofs.lemmas.Int.{ints, to_z-of_z}
use Rattle.tally.specs.Deals.{buyer_of, seller_of}
use Rattle.book.specs.Held.{rows_in}
use Rattle.book.proofs.Netted.{both_netted, sound_size}
use Rattle.book.proofs.RecordedTrades.{sides_differ}
use Rattle.book.proofs.position_tables.Table+Position+MOST_POSITIONS.net.Goals as goal

pub returns : goal.returns
returns c =
    let deal = c.args.deal.now in
    let rows = rows_in c.args.self.now in
    let f : SFits w64 deal.amount = search rules in
    let paid : to_z w64 (of_z w64 (pos 0 -ℤ to_z w64 (of_z w64 deal.amount))) ≡ neg_ℤ deal.amount = omega (arith, ints, (sound_size deal c.requires.sound).0) in
    rw (c.enter_both.ensures, c.moved-bought.ensures, c.moved-sold.ensures, c.row_or_fresh.ensures, c.row_or_fresh-2.ensures, c.buyer_key.ensures, c.seller_key.ensures, paid, to_z-of_z w64 deal.amount f)
    (both_netted rows c.requires.ascending (buyer_of deal) (seller_of deal) deal.amount (neg_ℤ deal.amount) c.args.places.now.buyer c.args.places.now.seller c.requires.buyer_found c.requires.seller_found (sides_differ deal c.requires.sound))
