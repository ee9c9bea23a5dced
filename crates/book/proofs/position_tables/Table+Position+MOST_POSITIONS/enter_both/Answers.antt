use Rattle.std.proofs.Common.{◌∙◌, rules}
use Rattle.book.specs.Held.{rows_in}
use Rattle.book.proofs.Enterings.{found_ordered, other_before, placed_either_order, placed_in_order}
use Rattle.book.proofs.position_tables.Table+Position+MOST_POSITIONS.enter_both.Goals as goal

pub enter_in_order-requires-clause-ordered : goal.enter_in_order-requires-clause-ordered
enter_in_order-requires-clause-ordered c =
    found_ordered (rows_in c.args.self.now) c.requires.ascending _ _ c.args.one.row (search rules) c.args.one.place c.args.other.place c.requires.one_found c.requires.other_found

pub enter_in_order-requires-else-is_before-clause-ordered : goal.enter_in_order-requires-else-is_before-clause-ordered
enter_in_order-requires-else-is_before-clause-ordered c =
    let lt = other_before c.args.one.row.key c.args.other.row.key c.requires.different (search rules) in
    found_ordered (rows_in c.args.self.now) c.requires.ascending _ _ c.args.one.row lt c.args.other.place c.args.one.place c.requires.other_found c.requires.one_found

pub returns-then-is_before : goal.returns-then-is_before
returns-then-is_before c =
    c.enter_in_order.ensures ∙ placed_either_order (rows_in c.args.self.now) c.requires.ascending c.args.one.row c.args.other.row (search rules) c.args.one.place c.args.other.place c.requires.one_found c.requires.other_found

pub returns-else-is_before : goal.returns-else-is_before
returns-else-is_before c =
    let lt = other_before c.args.one.row.key c.args.other.row.key c.requires.different (search rules) in
    c.enter_in_order-else-is_before.ensures ∙ placed_in_order (rows_in c.args.self.now) c.requires.ascending c.args.other.row c.args.one.row lt c.args.other.place c.args.one.place c.requires.other_found c.requires.one_found
