-- The listed terms and the keys of positions ascend.
use Rattle.std.proofs.Common.{List, ltb, [], ◌∷◌, refl, arith}
use Rattle.tables.proofs.Entries.{ascending_entered}
use Rattle.tables.specs.Finding.{Ascending}
use Rattle.tables.specs.Orders.{nat_transitive}
use Rattle.tally.specs.Deals.{buyer_of, seller_of}
use Rattle.tally.specs.History.{History, listed, traded, proposed, preliminary, withdrawn, noticed, failed, assigned, listed_terms, position_keys, with_key}
use Rattle.tally.specs.Keys.{before}
use Rattle.tally.specs.declared.keys.PositionKey.{PositionKey}
use Rattle.tally.specs.Orders.{before_transitive}

pub terms_ascend : (t : History) → Ascending (λ x. x.number) ltb (listed_terms t)
terms_ascend [] = λ i j d lt in'. absurd (omega arith)
terms_ascend (listed terms ∷ t) = ascending_entered (λ x. x.number) ltb nat_transitive terms.number (λ x. x) terms refl (λ x. refl) (listed_terms t) (terms_ascend t)
terms_ascend (traded _ ∷ t) = terms_ascend t
terms_ascend (proposed _ _ ∷ t) = terms_ascend t
terms_ascend (preliminary _ ∷ t) = terms_ascend t
terms_ascend (withdrawn _ ∷ t) = terms_ascend t
terms_ascend (noticed _ ∷ t) = terms_ascend t
terms_ascend (failed _ _ ∷ t) = terms_ascend t
terms_ascend (assigned _ _ _ ∷ t) = terms_ascend t

-- keys ascend with one more among them
pub with_key_ascends : (k : PositionKey) (keys : List PositionKey) → Ascending (λ j. j) before keys → Ascending (λ j. j) before (with_key k keys)
with_key_ascends k keys asc = ascending_entered (λ j. j) before before_transitive k (λ j. j) k refl (λ x. refl) keys asc

pub keys_ascend : (t : History) → Ascending (λ j. j) before (position_keys t)
keys_ascend [] = λ i j d lt in'. absurd (omega arith)
keys_ascend (listed _ ∷ t) = keys_ascend t
keys_ascend (traded deal ∷ t) = with_key_ascends (seller_of deal) _ (with_key_ascends (buyer_of deal) (position_keys t) (keys_ascend t))
keys_ascend (proposed _ _ ∷ t) = keys_ascend t
keys_ascend (preliminary _ ∷ t) = keys_ascend t
keys_ascend (withdrawn _ ∷ t) = keys_ascend t
keys_ascend (noticed _ ∷ t) = keys_ascend t
keys_ascend (failed _ _ ∷ t) = keys_ascend t
keys_ascend (assigned _ _ _ ∷ t) = keys_ascend t
