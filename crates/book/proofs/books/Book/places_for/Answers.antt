use Rattle.std.proofs.Common.{arith, ◌≡◌, Err, rules}
use Rattle.book.proofs.JudgedTrades.{book_misses_swaption, trade_judged, trade_placed}
use Rattle.book.specs.declared.places.TradePlaces.{TradePlaces}
use Rattle.book.proofs.books.Book.places_for.Goals as goal

pub returns-in_default : goal.returns-in_default
returns-in_default c = book_misses_swaption c.args.self.now c.args.deal.now (search rules) c.in_default.field-0 (rw c.in_default.is at c.place_of.ensures)

pub returns-in_err-judge_trade : goal.returns-in_err-judge_trade
returns-in_err-judge_trade c =
    let places : TradePlaces = record { swaption = c.in-Ok.at; buyer = c.place_of-buyer.result; seller = c.place_of-seller.result } in
    let is : c.from_residual.result ≡ Err c.in_err-judge_trade.field-0.0 = search rules in
    rw is (trade_judged c.args.self.now c.args.deal.now places c.row-swaption.result (search rules) (rw c.in-Ok.is at c.place_of.ensures) (c.row-swaption.ensures c.row-swaption.result) (rw c.buyer_key.ensures at c.place_of-buyer.ensures) (rw c.seller_key.ensures at c.place_of-seller.ensures) (Err c.in_err-judge_trade.field-0.0) c.missing_at.result c.missing_at-2.result c.missing_at.ensures c.missing_at-2.ensures (grind (arith, c.judge_trade.ensures)))

pub returns : goal.returns
returns c =
    let places : TradePlaces = record { swaption = c.in-Ok.at; buyer = c.place_of-buyer.result; seller = c.place_of-seller.result } in
    trade_placed c.args.self.now c.args.deal.now places c.row-swaption.result (search rules) (rw c.in-Ok.is at c.place_of.ensures) (c.row-swaption.ensures c.row-swaption.result) (rw c.buyer_key.ensures at c.place_of-buyer.ensures) (rw c.seller_key.ensures at c.place_of-seller.ensures) c.judge_trade.result c.missing_at.result c.missing_at-2.result c.missing_at.ensures c.missing_at-2.ensures c.judge_trade.ensures (search rules)
