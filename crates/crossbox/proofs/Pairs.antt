-- Of two waiting cells of one pair the earlier stands first: each step of a slot keeps that.
use Rattle.std.proofs.Common.{◌≡◌, ℕ, zero, suc, ◌<◌, Bool, true, false, cond, ◌&&◌, ltb, List, [], ◌∷◌, length, sym, refl, ap, ◌∙◌, subst, inl, inr, arith}
use Rattle.std.proofs.lemmas.Bool.{or_cases, both_ways}
use Rattle.crossbox.specs.declared.Arrival.{Arrival}
use Rattle.crossbox.specs.declared.Arrival.TheVariants.{Nothing, For}
use Rattle.crossbox.specs.declared.Cell.{Cell}
use Rattle.crossbox.specs.Cells.{Arrivals, earlier, same, is_in, ahead}
use Rattle.crossbox.specs.Box.{Box, put_at, taken, room_for, arriving, transfer, without_all}
use Rattle.crossbox.specs.Shape.{InOrder}
use Rattle.crossbox.specs.Slack.{Slack}
use Rattle.crossbox.proofs.Cells.{same_eq, same_output, same_slot, earlier-not, earlier_slot, earlier_differs}
use Rattle.crossbox.proofs.Lists.{is_in-same, is_in-put_at, is_in_other, count_le}
use Rattle.crossbox.proofs.Shape.{Placed, new_waits_not}
use Rattle.crossbox.proofs.Slack.{stayed}

-- who stands before the place of a new cell stays where it is, and the new cell stands behind it
put_at-behind : (k : ℕ) (c e : Cell) (l : List Cell) → is_in c l ≡ true → is_in e l ≡ false → ahead c l < k → ahead c (put_at k e l) < ahead e (put_at k e l)
unfolding is_in ahead put_at
put_at-behind zero c e l h g a = absurd (grind arith)
put_at-behind (suc k) c e [] h g a = absurd (grind arith)
put_at-behind (suc k) c e (d ∷ l) h g a =
    let ih = put_at-behind k c e l in
    grind (arith, ih)

-- a new cell leaves the order of the others
put_at_order : (k : ℕ) (c d e : Cell) (l : List Cell) → same c e ≡ false → same d e ≡ false → ahead c l < ahead d l → ahead c (put_at k e l) < ahead d (put_at k e l)
unfolding ahead put_at
put_at_order zero c d e l h g a = grind arith
put_at_order (suc k) c d e [] h g a = absurd (grind arith)
put_at_order (suc k) c d e (x ∷ l) h g a = let ih = put_at_order k c d e l h g in grind (arith, ih)

-- so do cells that go
without_all_order : (c d : Cell) (ms l : List Cell) → is_in c ms ≡ false → is_in d ms ≡ false → ahead c l < ahead d l → ahead c (without_all ms l) < ahead d (without_all ms l)
unfolding ahead without_all
without_all_order c d ms [] h g a = absurd (grind arith)
without_all_order c d ms (x ∷ l) h g a =
    let ih = without_all_order c d ms l h g in
    let i = is_in-same c x ms in
    let j = is_in-same d x ms in
    grind (arith, ih, i, j)

-- the new cell stands behind every waiting cell of its pair, since each has fewer ahead than stand in the store
order_new : (n t i o : ℕ) (b : Box) → Placed n t b → Slack 1 b → (c d e : Cell) → e ≡ record { slot = t; input = i; output = o } → is_in c (b.waiting i) ≡ true → same d e ≡ true → c.output ≡ d.output → ahead c (put_at (length (b.store o)) e (b.waiting i)) < ahead d (put_at (length (b.store o)) e (b.waiting i))
order_new n t i o b p s c d e new h g q =
    let w = b.waiting i in
    let k = length (b.store o) in
    let i-is = (p.waits i c h).0 in
    let here : is_in c (b.waiting c.input) ≡ true = subst (λ z. is_in c (b.waiting z) ≡ true) (sym i-is) h in
    let f = s c here in
    let z = ap (λ z. ahead c (b.waiting z)) i-is in
    let l = count_le c (b.store c.output) in
    let o_is : c.output ≡ o = q ∙ (same_output d e g ∙ ap (λ (z : Cell). z.output) new) in
    let m = ap (λ z. length (b.store z)) o_is in
    let behind = put_at-behind k c e w h (new_waits_not n t b p i e (ap (λ (z : Cell). z.slot) new)) (omega arith) in
    subst (λ z. ahead c (put_at k e w) < ahead z (put_at k e w)) (sym (same_eq d e g)) behind

order_taken : (n t i : ℕ) (test : Bool) (x : Arrival) (b : Box) → Placed n t b → Slack 1 b → InOrder b → (c d : Cell) → is_in c (cond test (taken t i x b) (b.waiting i)) ≡ true → is_in d (cond test (taken t i x b) (b.waiting i)) ≡ true → c.output ≡ d.output → earlier c d ≡ true → ahead c (cond test (taken t i x b) (b.waiting i)) < ahead d (cond test (taken t i x b) (b.waiting i))
order_taken n t i false x b p s r c d h g q e = r i c d h g q e
order_taken n t i true Nothing b p s r c d h g q e = r i c d h g q e
order_taken n t i true (For o) b p s r c d h g q e =
    let new : Cell = record { slot = t; input = i; output = o } in
    let w = b.waiting i in
    let k = length (b.store o) in
    let none = new_waits_not n t b p i new refl in
    elim (or_cases (same d new) (is_in d w) (sym (is_in-put_at d k new w) ∙ g)) [
      | inl d-new ↦
          elim (or_cases (same c new) (is_in c w) (sym (is_in-put_at c k new w) ∙ h)) [
            | inl c-new ↦
                absurd
                (both_ways (same c d) (earlier_differs c d e) (subst (λ z. same c z ≡ true) (sym (same_eq d new d-new)) c-new))
            | inr c-old ↦ order_new n t i o b p s c d new refl c-old d-new q
          ]
      | inr d-old ↦
          elim (or_cases (same c new) (is_in c w) (sym (is_in-put_at c k new w) ∙ h)) [
            | inl c-new ↦
                absurd
                (let before = earlier_slot d c (let u = p.waits i d d-old in let v = same_slot c new c-new in omega (arith, u.2)) in
                both_ways (earlier c d) (earlier-not d c before) e)
            | inr c-old ↦
                put_at_order k c d new w (is_in_other c new w c-old none) (is_in_other d new w d-old none) (r i c d c-old d-old q e)
          ]
    ]

pub order_arriving : (k room n t : ℕ) (a : Arrivals) (b : Box) → Placed n t b → Slack 1 b → InOrder b → InOrder (arriving k room n t a b)
order_arriving k room n t a b p s r i =
    order_taken n t i (ltb i k && room_for room n i a b (a i)) (a i) b p s r

pub order_transfer : (b : Box) (ms : List Cell) → InOrder b → InOrder (transfer ms b)
order_transfer b ms r i c d h g q e =
    let l = b.waiting i in
    let x = stayed c ms l h in
    let y = stayed d ms l g in
    without_all_order c d ms l x.1 y.1 (r i c d x.0 y.0 q e)
