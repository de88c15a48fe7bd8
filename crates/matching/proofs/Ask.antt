-- Who asks next and for which cell, as the table and the sets tell it.
use Rattle.std.proofs.Common.{◌≡◌, ℕ, zero, suc, ◌+◌, ◌*◌, ◌<◌, ◌≤◌, true, false, cond, get_or, Some, None, Option, sym, refl, ap, ◌∙◌, subst, inl, inr, arith}
use Rattle.std.proofs.lemmas.Bool.{cases_Bool, cases_lt, both_ways, eqb-true, eq-eqb, lt-ltb}
use Rattle.std.proofs.lemmas.Bool.Decides.{nat_tests}
use Rattle.crossbox.specs.declared.Cell.{Cell}
use Rattle.crossbox.specs.Cells.{earlier, same, is_in, earliest}
use Rattle.crossbox.specs.Box.{Box, for_output}
use Rattle.crossbox.specs.Matching.{Finding, content, unrefused, wanted, or_else, next_ask, Ended}
use Rattle.crossbox.proofs.Cells.{same_eq, earlier_other}
use Rattle.crossbox.proofs.Asking.{earliest_in, earliest-none, earliest_least, content-none, is_in-unrefused, next-ended}
use Rattle.matching.specs.declared.Firsts.{Firsts}
use Rattle.bits.specs.Bits.{is_set, Lowest}
use Rattle.matching.specs.Table.{Ties, first_for}
use Rattle.matching.specs.Asking.{key_of, Earliest}
use Rattle.matching.specs.Loop.{State, Tied}
use Rattle.matching.proofs.Heads.{some_first, some_for, first_in, first-ahead}
use Rattle.bits.proofs.Sets.{none-set}

-- of two first cells the one with the greater number is not earlier
key_earlier : (c e : Cell) (x y : ℕ) → x ≡ c.slot * 32 + c.input → y ≡ e.slot * 32 + e.input → c.input < 32 → e.input < 32 → x ≤ y → earlier e c ≡ false
unfolding earlier
key_earlier c e x y p q h g l = grind (arith, nat_tests)

-- what is not earlier than a cell that is not earlier than another, is not earlier than that
earlier_chain : (c e d : Cell) → earlier e c ≡ false → earlier d e ≡ false → earlier d c ≡ false
unfolding earlier
earlier_chain c e d h g = grind (arith, nat_tests)

none_below : (n k : ℕ) (b : Box) (s : Finding) → ((p : ℕ) → p < k → wanted n p b s ≡ None) → next_ask n k b s ≡ None
unfolding next_ask
none_below n zero b s f = refl
none_below n (suc k) b s f =
    ap (λ z. or_else z (wanted n k b s)) (none_below n k b s (λ p l. f p (omega arith))) ∙ f k (omega arith)

-- the lowest that asks for anything asks next
next_at : (n k o : ℕ) (b : Box) (s : Finding) (c : Cell) → o < k → ((p : ℕ) → p < o → wanted n p b s ≡ None) → wanted n o b s ≡ Some c → next_ask n k b s ≡ Some c
unfolding next_ask
next_at n zero o b s c l f e = absurd (omega arith)
next_at n (suc k) o b s c l f e =
    elim (cases_lt o k) [
      | inl h ↦ ap (λ z. or_else z (wanted n k b s)) (next_at n k o b s c h f e)
      | inr h ↦
          (let q : o ≡ k = omega arith in
          ap (λ z. or_else z (wanted n k b s)) (none_below n k b s (λ p l. f p (omega arith))) ∙ subst (λ z. wanted n z b s ≡ Some c) q e)
    ]

-- the table and the sets are those of a box and of what has been kept and refused so far
module _ (n : ℕ) (b : Box) (t : Firsts) (ties : Ties t n b) (s : Finding) (st : State) (tied : Tied n b s st) where
  -- a cell that its input has not refused to an output that is not content may be asked for
  may_ask_lem : (o : ℕ) → content n o s ≡ false → (d : Cell) → is_in d (unrefused n o b s) ≡ true → (is_in d (b.waiting d.input) ≡ true) × (d.output ≡ o) × (is_set (get_or st.askable o 0) d.input ≡ true)
  may_ask_lem o h d m =
      let u = is_in-unrefused n n o b s ties.placed d in
      let w : is_in d (b.waiting d.input) ≡ true = grind (arith, u, m) in
      let q : d.output ≡ o = eqb-true d.output o (grind (arith, u, m)) in
      let r : s.refused d.input o ≡ false = grind (arith, u, m) in
      let f = some_for o d (b.waiting d.input) w q in
      let k = content-none n o s h d.input (ties.placed d.input d w).1 in
      (w, q, tied.left d.input o ∙ grind (arith, f, r, k))

  -- an output that is not among those that ask wants nothing
  pub none-wanted : (o : ℕ) → is_set st.asking o ≡ false → wanted n o b s ≡ None
  none-wanted o h =
      elim (cases_Bool (content n o s)) [
        | inl e ↦ ap (λ z. cond z None (earliest (unrefused n o b s))) e
        | inr e ↦
            (let a = tied.asks o in
            let z : get_or st.askable o 0 ≡ 0 = eqb-true (get_or st.askable o 0) 0 (grind (arith, a, e, h)) in
            ap (λ z. cond z None (earliest (unrefused n o b s))) e ∙ go z e (earliest (unrefused n o b s)) refl)
      ]
    where
      go : get_or st.askable o 0 ≡ 0 → content n o s ≡ false → (x : Option Cell) → earliest (unrefused n o b s) ≡ x → x ≡ None
      go z e None q = refl
      go z e (Some d) q =
          absurd
          (let m = may_ask_lem o e d (earliest_in (unrefused n o b s) d q) in
          both_ways (is_set (get_or st.askable o 0) d.input) (ap (λ w. is_set w d.input) z ∙ none-set d.input) m.2)

  -- where no output asks the finding has ended
  pub nobody_asks : st.asking ≡ 0 → Ended n b s
  nobody_asks e =
      next-ended n b s (none_below n n b s (λ p l. none-wanted p (ap (λ z. is_set z p) e ∙ none-set p)))

  -- an output that asks is not content, and may still ask some input
  pub asker : (o : ℕ) → is_set st.asking o ≡ true → (content n o s ≡ false) × (0 < get_or st.askable o 0)
  asker o h = let a = tied.asks o in (grind (arith, a, h), grind (arith, nat_tests, a, h))

  -- an input that may be asked has a first cell for the output, which is not refused
  pub asked-cell : (o i : ℕ) → is_set (get_or st.askable o 0) i ≡ true → (c : Cell) × (first_for o (b.waiting i) ≡ Some c) × (is_in c (b.waiting i) ≡ true) × (c.output ≡ o) × (c.input ≡ i) × (i < n) × (o < n) × (s.refused i o ≡ false)
  asked-cell o i h =
      let m = tied.left i o in
      let f = some_first (for_output o (b.waiting i)) (grind (arith, m, h)) in
      let c = f.0 in
      let g = first_in o (b.waiting i) c f.1 in
      let p = ties.placed i c g.0 in
      (c, f.1, g.0, g.1, p.0, p.1, subst (λ z. z < n) g.1 p.2, grind (arith, m, h))

  -- of the cells that an output may ask for, the earliest is the first one at the input whose number is least
  asked_least : n ≤ 32 → (o i : ℕ) (c : Cell) → content n o s ≡ false → Earliest t.slots o (get_or st.askable o 0) i → first_for o (b.waiting i) ≡ Some c → c.input ≡ i → i < n → (d : Cell) → is_in d (unrefused n o b s) ≡ true → earlier d c ≡ false
  asked_least fits o i c h best f ci l d m =
      let w = may_ask_lem o h d m in
      let j = d.input in
      let a = asked-cell o j w.2 in
      let e = a.0 in
      let less : earlier e c ≡ false =
      key_earlier c e (key_of t.slots o i) (key_of t.slots o j) (let x = ties.slot i o c f in omega arith) (let x = ties.slot j o e a.1 in omega (arith, a.4)) (omega arith) (omega (arith, a.4, a.5)) (best.least j w.2) in
      let behind = first-ahead o (b.waiting j) e d a.1 w.0 w.1 in
      let first : earlier d e ≡ false =
      elim (cases_Bool (earlier d e)) [
        | inl y ↦ (let z = ties.order j d e w.0 a.2 (w.1 ∙ sym a.3) y in absurd (omega arith))
        | inr y ↦ y
      ] in
      earlier_chain c e d less first

  -- so the lowest output that asks wants the first cell at that input, and it asks next
  pub asked-next : n ≤ 32 → (o i : ℕ) → Lowest st.asking o → Earliest t.slots o (get_or st.askable o 0) i → (c : Cell) → first_for o (b.waiting i) ≡ Some c → is_in c (b.waiting i) ≡ true → c.output ≡ o → c.input ≡ i → i < n → o < n → s.refused i o ≡ false → next_ask n n b s ≡ Some c
  unfolding is_in
  asked-next fits o i low best c f w q ci li lo r =
      let h = (asker o low.here).0 in
      let u = is_in-unrefused n n o b s ties.placed c in
      let e1 = eq-eqb c.output o q in
      let e2 = lt-ltb c.input n (subst (λ z. z < n) (sym ci) li) in
      let e3 : is_in c (b.waiting c.input) ≡ true = subst (λ z. is_in c (b.waiting z) ≡ true) (sym ci) w in
      let e4 : s.refused c.input o ≡ false = subst (λ z. s.refused z o ≡ false) (sym ci) r in
      let m : is_in c (unrefused n o b s) ≡ true = grind (arith, u, e1, e2, e3, e4) in
      let x : earliest (unrefused n o b s) ≡ Some c = go h m (earliest (unrefused n o b s)) refl in
      next_at n n o b s c lo (λ p l. none-wanted p (low.below p l)) (ap (λ z. cond z None (earliest (unrefused n o b s))) h ∙ x)
    where
      go : content n o s ≡ false → is_in c (unrefused n o b s) ≡ true → (x : Option Cell) → earliest (unrefused n o b s) ≡ x → x ≡ Some c
      go h m None e =
          absurd (let z = earliest-none (unrefused n o b s) e in both_ways (is_in c (unrefused n o b s)) (ap (λ z. is_in c z) z) m)
      go h m (Some d) e =
          let mine = earliest_least (unrefused n o b s) d e c m in
          let there = earliest_in (unrefused n o b s) d e in
          let its = asked_least fits o i c h best f ci li d there in
          let od = (may_ask_lem o h d there).1 in
          elim (cases_Bool (same d c)) [
            | inl y ↦ ap (λ z. Some z) (same_eq d c y)
            | inr y ↦ absurd (both_ways (earlier c d) mine (earlier_other d c (od ∙ sym q) y its))
          ]
