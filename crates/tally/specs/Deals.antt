-- Trades: the two positions of one, and when it is sound.
use Rattle.std.specs.Prelude.{Bool, not, ◌&&◌, pos, int_le, nat_le}
use Rattle.tally.specs.Keys.{key_in, same_party}
use Rattle.tally.specs.declared.deals.Deal.{Deal}
use Rattle.tally.specs.declared.keys.PositionKey.{PositionKey}

-- The position that buys.
abbrev pub buyer_of : Deal → PositionKey
buyer_of deal = key_in deal.swaption deal.buyer

-- The position that sells.
abbrev pub seller_of : Deal → PositionKey
seller_of deal = key_in deal.swaption deal.seller

-- Whether every field is in its range, and the two sides differ. Client and desk may be any number of their type.
abbrev pub sound_deal : Deal → Bool
sound_deal deal =
    nat_le 1 deal.swaption && nat_le 1 deal.buyer.participant && nat_le 1 deal.seller.participant
    && int_le (pos 1) deal.amount && int_le deal.amount (pos 2000000000)
    && not (same_party deal.buyer deal.seller)
