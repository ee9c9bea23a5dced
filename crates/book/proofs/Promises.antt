-- What is promised of a call follows from what the call answers and leaves.
use Rattle.std.proofs.Common.{◌≡◌, ◌≤◌, true, false, List, [], ◌∷◌, map, is_ok, Some, None, Ok, Err, Option, sym, refl, ap, ◌∙◌, subst, arith}
use Rattle.std.proofs.ByRecursion.{All-map}
use Rattle.std.proofs.lemmas.Bool.{cond_both, cond-false}
use Rattle.std.specs.Option.{option_map}
use Rattle.std.specs.List.{AllByRecursion}
use Rattle.tally.proofs.Bounds.{bound_rises_with_trade, recorded_bound}
use Rattle.tally.specs.Orders.{among_with_key, same_means_equal}
use Rattle.tally.specs.Deals.{buyer_of, seller_of}
use Rattle.tally.specs.History.{History, listed, traded, bound_amount, position_keys, with_key}
use Rattle.tally.specs.Keys.{same_key}
use Rattle.tally.specs.Listings.{terms_of}
use Rattle.tally.specs.Table.{Answer}
use Rattle.tally.specs.Tally.{World, answer, entry_of, answer_to_list, is_among, kept_if, list_among}
use Rattle.tally.specs.declared.calls.Call.{Call}
use Rattle.tally.specs.declared.calls.Call.TheVariants.{List as ListCall, Trade}
use Rattle.tally.specs.declared.deals.Deal.{Deal}
use Rattle.tally.specs.declared.keys.PositionKey.{PositionKey}
use Rattle.tally.specs.declared.listings.Listing.{Listing}
use Rattle.tally.specs.declared.listings.Terms.{Terms}
use Rattle.book.proofs.RecordedLists.{list_recorded, terms_recorded}
use Rattle.book.proofs.RecordedTrades.{trade_answer_same, trade_recorded}
use Rattle.book.specs.Calls.{if_accepted, list_says, trade_says, with_stated}
use Rattle.book.specs.Held.{rows_in}
use Rattle.book.specs.Promise.{next, Records, Told, bound_at, runs}
use Rattle.book.specs.Records.{position_of}
use Rattle.book.specs.Rows.{bound_of, traded_positions, traded_swaptions}
use Rattle.book.specs.declared.books.Book.{Book}

-- ---- bound amounts of a book that records a history
bound_recorded : (t : History) (book : Book) → Records t book → AllByRecursion (λ p. bound_of p ≡ bound_amount t p.key) (rows_in book.positions)
bound_recorded t book h =
    rw h.netted (All-map (λ p. bound_of p ≡ bound_amount t p.key) (position_of t) (position_keys t) (each (position_keys t)))
  where
    each : (keys : List PositionKey) → AllByRecursion (λ k. bound_of (position_of t k) ≡ bound_amount t k) keys
    each [] = tt
    each (k ∷ keys) = (recorded_bound t k, each keys)

bound_among : (t : History) (k : PositionKey) (keys : List PositionKey) → is_among k keys ≡ true → bound_at k (map (position_of t) keys) ≡ bound_amount t k
bound_among t k [] e = grind arith
bound_among t k (j ∷ keys) e =
    cond_both (same_key j k) _ _ (λ n. n ≡ bound_amount t k)
    (λ y. recorded_bound t j ∙ ap (bound_amount t) (same_means_equal j k y))
    (λ n. bound_among t k keys (grind (arith, e, n)))

bound_of_stranger : (t : History) (k : PositionKey) (keys : List PositionKey) → is_among k keys ≡ false → bound_at k (map (position_of t) keys) ≡ 0
bound_of_stranger t k [] e = refl
bound_of_stranger t k (j ∷ keys) e = grind (arith, e, bound_of_stranger t k keys)

still_among : (deal : Deal) (t : History) (k : PositionKey) → is_among k (position_keys t) ≡ true → is_among k (position_keys (traded deal ∷ t)) ≡ true
still_among deal t k e =
    grind (arith, e, among_with_key k (seller_of deal) (with_key (buyer_of deal) (position_keys t)), among_with_key k (buyer_of deal) (position_keys t))

trade_rises : (deal : Deal) (t : History) (old new : Book) → Records t old → Records (traded deal ∷ t) new → (k : PositionKey) → bound_at k (rows_in old.positions) ≤ bound_at k (rows_in new.positions)
trade_rises deal t old new h g k =
    let ks = position_keys t in
    let ks' = position_keys (traded deal ∷ t) in
    grind (arith, ap (bound_at k) h.netted, ap (bound_at k) g.netted, bound_among t k ks, bound_among (traded deal ∷ t) k ks', bound_of_stranger t k ks, still_among deal t k, bound_rises_with_trade deal t k g.kept)

same_rises : (old new : Book) → new.positions ≡ old.positions → (k : PositionKey) → bound_at k (rows_in old.positions) ≤ bound_at k (rows_in new.positions)
same_rises old new e k = grind (arith, e)

-- what is left of a call that runs, once its answer is known
told : {R : Type 0} (w : World R) (t : History) (call : Call R) (r : Answer) (old new : Book) → runs call ≡ true → r ≡ answer w t call → Records (kept_if r (entry_of w t call) t) new → ((k : PositionKey) → bound_at k (rows_in old.positions) ≤ bound_at k (rows_in new.positions)) → Told w t call (Some r) old new
told w t call r old new run same on rises =
    let on : Records (next w t call) new = rw (run, sym same) on in
    record { answered = rw (run, sym same) refl; recorded = on; bound = bound_recorded _ new on; rises = rises }

-- ---- list
module _ (t : History) (old new : Book) (h : Records t old) (same_positions : new.positions ≡ old.positions) (same_latest : new.latest ≡ old.latest) where
  list_settled : (o : Option Terms) (r : Answer) → r ≡ list_says (rows_in old.swaptions) o → rows_in new.swaptions ≡ if_accepted r (with_stated o (rows_in old.swaptions)) (rows_in old.swaptions) → (is_ok r ≡ false → new ≡ old) → Records (kept_if r (option_map listed o) t) new
  list_settled None (Ok u) says rows refused = grind arith
  list_settled None (Err e) says rows refused = rw (refused refl) h
  list_settled (Some terms) (Ok u) says rows refused =
      rw (same_positions, same_latest) (list_recorded t old.swaptions new.swaptions old.positions old.latest terms h (sym says) rows)
  list_settled (Some terms) (Err e) says rows refused = rw (refused refl) h

pub told_list : {R : Type 0} (w : World R) (t : History) (l : Listing) (r : Answer) (old new : Book) → Records t old → r ≡ list_says (rows_in old.swaptions) (terms_of l) → rows_in new.swaptions ≡ if_accepted r (with_stated (terms_of l) (rows_in old.swaptions)) (rows_in old.swaptions) → new.positions ≡ old.positions → new.latest ≡ old.latest → (is_ok r ≡ false → new ≡ old) → Told w t (ListCall l) (Some r) old new
told_list w t l r old new h says rows positions latest refused =
    let same : r ≡ answer_to_list t (terms_of l) = says ∙ ap (λ all. list_among all (terms_of l)) (terms_recorded t old.swaptions old.positions old.latest h) in
    told w t (ListCall l) r old new refl same (list_settled t old new h positions latest (terms_of l) r says rows refused) (same_rises old new positions)

-- ---- trade
pub told_trade : {R : Type 0} (w : World R) (t : History) (deal : Deal) (r : Answer) (old new : Book) → Records t old → r ≡ trade_says (rows_in old.swaptions) (rows_in old.positions) old.latest deal → rows_in new.swaptions ≡ if_accepted r (traded_swaptions deal (rows_in old.swaptions)) (rows_in old.swaptions) → rows_in new.positions ≡ if_accepted r (traded_positions deal (rows_in old.positions)) (rows_in old.positions) → new.latest ≡ if_accepted r deal.moment old.latest → (is_ok r ≡ false → new ≡ old) → Told w t (Trade deal) (Some r) old new
told_trade w t deal (Ok u) old new h says swaptions positions latest refused =
    let on : Records (traded deal ∷ t) new = rw latest (trade_recorded t old.swaptions old.positions old.latest deal h (sym says) new.swaptions new.positions swaptions positions) in
    told w t (Trade deal) (Ok u) old new refl (says ∙ trade_answer_same t old.swaptions old.positions old.latest deal h) on (trade_rises deal t old new h on)
told_trade w t deal (Err e) old new h says swaptions positions latest refused =
    told w t (Trade deal) (Err e) old new refl (says ∙ trade_answer_same t old.swaptions old.positions old.latest deal h) (rw (refused refl) h) (same_rises old new (ap (λ b. b.positions) (refused refl)))

-- ---- a call that does not run yet
neither_runs : {R : Type 0} (call : Call R) → ((l : Listing) → call ≡ ListCall l → ⊥) → ((deal : Deal) → call ≡ Trade deal → ⊥) → runs call ≡ false
neither_runs call no_list no_trade = grind (arith, no_list, no_trade)

pub told_not_yet : {R : Type 0} (w : World R) (t : History) (call : Call R) (book : Book) → ((l : Listing) → call ≡ ListCall l → ⊥) → ((deal : Deal) → call ≡ Trade deal → ⊥) → Records t book → Told w t call None book book
told_not_yet w t call book no_list no_trade h =
    let e = neither_runs call no_list no_trade in
    let on : Records _ book = subst (λ u. Records u book) (sym (cond-false (runs call) _ t e)) h in
    record { answered = sym (cond-false (runs call) _ None e); recorded = on; bound = bound_recorded _ book on; rises = λ k. omega arith }
