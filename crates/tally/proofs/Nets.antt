-- Nets: no larger than what was traded, and nothing where there is no position.
use Rattle.std.proofs.Common.{◌≡◌, ℕ, ◌≤◌, false, [], ◌∷◌, pos, nat_abs, refl, arith}
use Rattle.std.proofs.lemmas.Int.{ints}
use Rattle.std.proofs.lemmas.Bool.Decides.{nat_tests}
use Rattle.tally.specs.Deals.{buyer_of, seller_of}
use Rattle.tally.specs.History.{History, listed, traded, proposed, preliminary, withdrawn, noticed, failed, assigned, net_of, position_keys, traded_in, with_key}
use Rattle.tally.specs.Tally.{Kept, is_among}
use Rattle.tally.specs.declared.keys.PositionKey.{PositionKey}
use Rattle.tally.specs.Orders.{among_with_key}

-- no net is larger than what was traded in its swaption
pub net_within : (t : History) (k : PositionKey) → nat_abs (net_of t k) ≤ traded_in t k.swaption
net_within [] k = omega arith
net_within (listed _ ∷ t) k = net_within t k
net_within (traded deal ∷ t) k = grind (arith, ints, nat_tests, net_within t k)
net_within (proposed _ _ ∷ t) k = net_within t k
net_within (preliminary _ ∷ t) k = net_within t k
net_within (withdrawn _ ∷ t) k = net_within t k
net_within (noticed _ ∷ t) k = net_within t k
net_within (failed _ _ ∷ t) k = net_within t k
net_within (assigned _ _ _ ∷ t) k = net_within t k

-- accepted trades in a swaption never pass 2,000,000,000
pub traded_capped : (t : History) (n : ℕ) → Kept t → traded_in t n ≤ 2000000000
traded_capped [] n h = omega arith
traded_capped (listed _ ∷ t) n h = traded_capped t n h.0
traded_capped (traded deal ∷ t) n h = grind (arith, nat_tests, h.1, traded_capped t n h.0)
traded_capped (proposed _ _ ∷ t) n h = traded_capped t n h.0
traded_capped (preliminary _ ∷ t) n h = traded_capped t n h.0
traded_capped (withdrawn _ ∷ t) n h = traded_capped t n h.0
traded_capped (noticed _ ∷ t) n h = traded_capped t n h.0
traded_capped (failed _ _ ∷ t) n h = traded_capped t n h.0
traded_capped (assigned _ _ _ ∷ t) n h = traded_capped t n h.0

-- whoever has no position has a net of 0
pub stranger_net : (t : History) (k : PositionKey) → is_among k (position_keys t) ≡ false → net_of t k ≡ pos 0
stranger_net [] k e = refl
stranger_net (listed _ ∷ t) k e = stranger_net t k e
stranger_net (traded deal ∷ t) k e =
    grind (arith, ints, stranger_net t k, among_with_key k (seller_of deal) (with_key (buyer_of deal) (position_keys t)), among_with_key k (buyer_of deal) (position_keys t))
stranger_net (proposed _ _ ∷ t) k e = stranger_net t k e
stranger_net (preliminary _ ∷ t) k e = stranger_net t k e
stranger_net (withdrawn _ ∷ t) k e = stranger_net t k e
stranger_net (noticed _ ∷ t) k e = stranger_net t k e
stranger_net (failed _ _ ∷ t) k e = stranger_net t k e
stranger_net (assigned _ _ _ ∷ t) k e = stranger_net t k e
