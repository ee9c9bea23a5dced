use Rattle.std.proofs.Common.{◌∙◌, rules}
use Rattle.book.specs.Held.{rows_in}
use Rattle.book.specs.Judging.{Placed}
use Rattle.book.specs.Rows.{blank_swaption}
use Rattle.book.proofs.Ascents.{positions_ascend}
use Rattle.book.proofs.JudgedTrades.{fair_by_trade, led_by_trade, positions_capped, swaptions_traded}
use Rattle.book.proofs.books.Book.trade.Goals as goal

pub net-requires-clause-ascending : goal.net-requires-clause-ascending
net-requires-clause-ascending c = positions_ascend c.args.self.now

pub net-requires-clause-capped : goal.net-requires-clause-capped
net-requires-clause-capped c = positions_capped c.args.self.now c.args.deal.now

pub invariant_of-self : goal.invariant_of-self
invariant_of-self c =
    let book = c.args.self.now in
    let deal = c.args.deal.now in
    let places = c.in_ok-places.places in
    let j : Placed (rows_in book.swaptions) (rows_in book.positions) book.latest deal places = search rules in
    let s = c.add_volume.ensures blank_swaption ∙ swaptions_traded book deal places j c.unsigned_abs-amount.result (search rules) c.unsigned_abs-amount.ensures.value blank_swaption in
    record {
      fair = fair_by_trade book deal places j c.add_volume.new.self c.net.new.self s c.net.ensures;
      led = led_by_trade book deal places j c.add_volume.new.self c.net.new.self s c.net.ensures;
    }

pub returns-clause-swaptions : goal.returns-clause-swaptions
returns-clause-swaptions c =
    c.add_volume.ensures blank_swaption ∙ swaptions_traded c.args.self.now c.args.deal.now c.in_ok-places.places (search rules) c.unsigned_abs-amount.result (search rules) c.unsigned_abs-amount.ensures.value blank_swaption
