-- Looking through a set of inputs for the one with the least number.
use Rattle.std.proofs.Common.{◌≡◌, ℕ, ◌+◌, ◌*◌, ◌%◌, ◌<◌, ◌≤◌, min, true, false, not, ◌&&◌, eqb, List, get_or, sym, ap, ◌∙◌, subst, inl, inr, arith}
use Rattle.std.proofs.lemmas.Nat.{mod_below, mod-mul-add}
use Rattle.std.proofs.lemmas.Bool.{cases_eq, both_ways, ne_eqb}
use Rattle.bits.specs.Bits.{is_set, Lowest}
use Rattle.matching.specs.Asking.{key_of, Earliest, LeastSoFar}
use Rattle.bits.proofs.Sets.{none-set}

-- a number says its input
number_input : (slots : List ℕ) (o i x : ℕ) → i < 32 → x ≡ key_of slots o i → x % 32 ≡ i
number_input slots o i x l e = ap (λ z. z % 32) e ∙ mod-mul-add (get_or slots (o * 32 + i) 0) 32 i l

module _ (slots : List ℕ) (o inputs : ℕ) where
  -- the lowest has been seen
  pub least_begins : (k rest least : ℕ) → Lowest inputs k → least ≡ key_of slots o k → ((k j : ℕ) → Lowest inputs k → is_set rest j ≡ (not (eqb j k) && is_set inputs j)) → LeastSoFar slots o inputs rest least
  least_begins k rest least low e f =
      let q = number_input slots o k least low.small e in
      record {
        among = subst (λ z. is_set inputs z ≡ true) (sym q) low.here;
        number = e ∙ ap (λ z. key_of slots o z) (sym q);
        seen = λ j h g.
            (let r = f k j low in
            elim (cases_eq j k) [
              | inl p ↦ (let z = ap (λ y. key_of slots o y) p in omega arith)
              | inr p ↦ (let n = ne_eqb j k p in absurd (both_ways (is_set rest j) g (grind (arith, r, n, h))))
            ]);
        within = λ j h. (let r = f k j low in grind (arith, r, h));
      }

  -- the lowest of the rest has been seen too
  pub least_more : (k rest less least here now-least : ℕ) → LeastSoFar slots o inputs rest least → Lowest rest k → here ≡ key_of slots o k → now-least ≡ min least here → ((k j : ℕ) → Lowest rest k → is_set less j ≡ (not (eqb j k) && is_set rest j)) → LeastSoFar slots o inputs less now-least
  least_more k rest less least here now-least so low e m f =
      let q = number_input slots o k here low.small e in
      let below : (now-least ≤ least) × (now-least ≤ here) = (omega arith, omega arith) in
      elim (cases_eq now-least least) [
        | inl p ↦ record {
          among = subst (λ z. is_set inputs (z % 32) ≡ true) (sym p) so.among;
          number = subst (λ z. z ≡ key_of slots o (z % 32)) (sym p) so.number;
          seen = seen_more below;
          within = within_more;
        }
        | inr p ↦
            (let p2 : now-least ≡ here = omega arith in
            record {
              among = subst (λ z. is_set inputs (z % 32) ≡ true) (sym p2) (subst (λ z. is_set inputs z ≡ true) (sym q) (so.within k low.here));
              number = subst (λ z. z ≡ key_of slots o (z % 32)) (sym p2) (e ∙ ap (λ z. key_of slots o z) (sym q));
              seen = seen_more below;
              within = within_more;
            })
      ]
    where
      seen_more : (now-least ≤ least) × (now-least ≤ here) → (j : ℕ) → is_set inputs j ≡ true → is_set less j ≡ false → now-least ≤ key_of slots o j
      seen_more b j h g =
          let r = f k j low in
          elim (cases_eq j k) [
            | inl p ↦ (let z = ap (λ y. key_of slots o y) p in omega arith)
            | inr p ↦ (let n = ne_eqb j k p in let s = so.seen j h (grind (arith, r, n, g)) in omega arith)
          ]

      within_more : (j : ℕ) → is_set less j ≡ true → is_set inputs j ≡ true
      within_more j h = let r = f k j low in so.within j (grind (arith, r, h))

  -- all have been seen
  pub least_ends : (rest least : ℕ) → LeastSoFar slots o inputs rest least → rest ≡ 0 → Earliest slots o inputs (least % 32)
  least_ends rest least so e =
      record {
        small = mod_below least 32 (omega arith);
        among = so.among;
        least = λ j h. omega (arith, so.number, so.seen j h (ap (λ z. is_set z j) e ∙ none-set j));
      }
