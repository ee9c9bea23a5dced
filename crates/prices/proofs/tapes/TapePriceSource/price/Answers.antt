use Rattle.std.proofs.Common.{◌≡◌, reverse, ap, ◌∙◌, rules}
use Rattle.std.proofs.lemmas.Iterator.Adapters.{YieldsList-from_rev_slice}
use Rattle.std.proofs.lemmas.Iterator.Search.{find_from_yields_List}
use Rattle.std.specs.List.{find}
use Rattle.std.specs.Option.{option_map}
use Rattle.prices.specs.Quotes.{known_by}
use Rattle.prices.proofs.LastRows.{first_from_back}
use Rattle.prices.proofs.tapes.TapePriceSource.price.Goals as goal

pub returns-clause-answered : goal.returns-clause-answered
returns-clause-answered c =
    let rows = c.args.self.now.rows.items in
    let applies = known_by c.args.index c.args.moment in
    let found : option_map (λ row. row.now) c.find.result ≡ find applies (reverse rows) = find_from_yields_List applies _ _ _ c.find.ensures.ran (YieldsList-from_rev_slice rows cc) (λ x b q k. search rules) in
    let priced : c.map.result ≡ option_map (λ row. row.price) (option_map (λ row. row.now) c.find.result) = search rules in
    priced ∙ ap (option_map (λ row. row.price)) found ∙ first_from_back applies (λ row. row.price) rows
