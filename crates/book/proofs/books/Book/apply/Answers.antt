use Rattle.book.proofs.Promises.{told_list, told_not_yet, told_trade}
use Rattle.book.proofs.books.Book.apply.Goals as goal

pub returns-in-List : goal.returns-in-List
returns-in-List g c w t h =
    let said = c.list.ensures in
    rw c.in-List.is (told_list w t c.in-List.listing c.list.result c.args.self.now c.list.new.self h said.answer said.swaptions said.positions said.latest said.refused)

pub returns-in-Trade : goal.returns-in-Trade
returns-in-Trade g c w t h =
    let said = c.trade.ensures in
    rw c.in-Trade.is (told_trade w t c.in-Trade.deal c.trade.result c.args.self.now c.trade.new.self h said.answer said.swaptions said.positions said.latest said.refused)

pub returns-in_default : goal.returns-in_default
returns-in_default g c w t h = told_not_yet w t c.args.call.now c.args.self.now c.in_default.not-List c.in_default.not-Trade h
