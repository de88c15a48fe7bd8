-- Our box, as one of the manners, is the model's box.
use Rattle.std.proofs.Common.{◌≡◌, ℕ, ◌<◌, ◌≤◌, Bool, true, false, cond, ◌&&◌, ltb, List, [], ◌∷◌, map, length, get_or, sym, refl, ap, ◌∙◌, subst, inl, inr, arith}
use mathlib.Core.Path.{fun_ext}
use Rattle.std.specs.List.{range_with_len}
use Rattle.std.proofs.lemmas.List.FromFn.{length-map-range_with_len, get_or-map-range_with_len}
use Rattle.std.proofs.lemmas.List.{get_or_past}
use Rattle.std.proofs.lemmas.Bool.{cases_lt, le-ltb}
use Rattle.crossbox.specs.declared.Arrival.{Arrival}
use Rattle.crossbox.specs.declared.Arrival.TheVariants.{Nothing, For}
use Rattle.crossbox.specs.declared.Cell.{Cell}
use Rattle.crossbox.specs.Cells.{Arrivals, is_in, earliest}
use Rattle.crossbox.specs.Box.{Box, Run, Stable, empty, taken, arrive, arrived, room_for, transfer, depart, departs, less, without_all, slip_all, for_output}
use Rattle.crossbox.specs.Box.Run.{begin, slot}
use Rattle.crossbox.specs.Matching.{find}
use Rattle.crossbox.specs.Promise.{AllFit, Fits}
use Rattle.crossbox.proofs.Lists.{none_in}
use Rattle.crossbox.proofs.Shape.{Directed, arriving_directed, transfer_directed}
use Rattle.crossbox.proofs.Runs.{run_directed, same-departures}
use Rattle.crossbox.proofs.Promise.{found_in_run, found_in_run_again}
use Rattle.cases.specs.Writing.{within}
use Rattle.cases.specs.Manner.{ours, listed, came, sent, left, after, at_first, leaves, found, OursIsTheModels, OursIsAlike}

-- boxes with the same lists and the same stores are one
box_eq : (b d : Box) → ((i : ℕ) → b.waiting i ≡ d.waiting i) → ((o : ℕ) → b.store o ≡ d.store o) → b ≡ d
box_eq b d p q =
    let w : b.waiting ≡ d.waiting = fun_ext p in
    let s : b.store ≡ d.store = fun_ext q in
    λ i. record { waiting = w i; store = s i }

-- nothing waits or stands beyond the first n lines
Beyond : ℕ → Box → Type 0
Beyond n b = (i : ℕ) → n ≤ i → (b.waiting i ≡ []) × (b.store i ≡ [])

pub line_same : (f : ℕ → List Cell) (n i : ℕ) → (n ≤ i → f i ≡ []) → get_or (map f (range_with_len 0 n)) i [] ≡ f i
line_same f n i h =
    elim (cases_lt i n) [
      | inl lt ↦ get_or-map-range_with_len f 0 n i i [] lt (omega arith)
      | inr le ↦ get_or_past (map f (range_with_len 0 n)) i [] (omega (arith, length-map-range_with_len f 0 n)) ∙ sym (h le)
    ]

-- so it is written out as it is
within_same : (n : ℕ) (b : Box) → Beyond n b → within n b ≡ b
unfolding Beyond
within_same n b h =
    box_eq (within n b) b (λ i. line_same b.waiting n i (λ le. (h i le).0)) (λ o. line_same b.store n o (λ le. (h o le).1))

empty-beyond : (n : ℕ) → Beyond n empty
unfolding Beyond
empty-beyond n i le = (refl, refl)

arrive-beyond : (n t : ℕ) (a : Arrivals) (b : Box) → Beyond n b → Beyond n (arrive 256 n t a b)
unfolding Beyond
arrive-beyond n t a b h i le =
    let none : ltb i n ≡ false = le-ltb i n le in (
      ap (λ (z : Bool). cond (z && room_for 256 n i a b (a i)) (taken t i (a i) b) (b.waiting i)) none ∙ (h i le).0,
      (h i le).1,
    )

empty_list : (l : List Cell) → length l ≡ 0 → l ≡ []
empty_list [] e = refl
empty_list (c ∷ l) e = absurd (omega (arith, e))

transfer-beyond : (n : ℕ) (ms : List Cell) (b : Box) → ((c : Cell) → is_in c ms ≡ true → c.output < n) → Beyond n b → Beyond n (transfer ms b)
unfolding Beyond without_all slip_all
transfer-beyond n ms b f h i le =
    let none : for_output i ms ≡ [] = empty_list (for_output i ms) (none_in i ms (λ c k e. (let l = f c k in omega arith))) in (
      ap (λ (l : List Cell). without_all ms l) (h i le).0,
      ap (λ (l : List Cell). slip_all l (b.store i)) none ∙ (h i le).1,
    )

depart-beyond : (n : ℕ) (b : Box) → Beyond n b → Beyond n (depart b)
unfolding Beyond earliest
depart-beyond n b h i le = ((h i le).0, ap (λ (l : List Cell). less (earliest l) l) (h i le).1)

-- arrivals are the model's
listed-taken : (n t : ℕ) (a : Arrivals) (b : Box) (i : ℕ) (x : Arrival) → listed ours n t a b i x ≡ taken t i x b
listed-taken n t a b i Nothing = refl
listed-taken n t a b i (For o) = refl

came-arrive : (n t : ℕ) (a : Arrivals) (b : Box) → came ours n t a b ≡ within n (arrive 256 n t a b)
came-arrive n t a b =
    ap (λ (d : Box). within n d)
    (box_eq _ (arrive 256 n t a b) (λ i. ap (λ (l : List Cell). cond (ltb i n && room_for 256 n i a b (a i)) l (b.waiting i)) (listed-taken n t a b i (a i))) (λ o. refl))

-- the steps of a slot after which our box is the model's
record Steps (n : ℕ) (past : List Arrivals) (a : Arrivals) : Type 0 where
  run : Run 256 n past (after ours n past)
  run_on : Run 256 n (a ∷ past) (after ours n (a ∷ past))
  beyond_on : Beyond n (after ours n (a ∷ past))
  departures : (o : ℕ) → leaves ours n o past a ≡ departs o (found n (arrived 256 n past a (after ours n past)))
  stable : Stable (arrived 256 n past a (after ours n past)) (find n (arrived 256 n past a (after ours n past)))
  step : after ours n (a ∷ past) ≡ found n (depart (found n (arrived 256 n past a (after ours n past))))

sent-found : (n : ℕ) (b : Box) → Directed n b → Stable b (find n b) → Beyond n b → (sent ours n b ≡ found n b) × Beyond n (found n b)
sent-found n b d st h =
    let k = transfer-beyond n (find n b) b (λ c i. d c.input c (st.waits c i)) h in
    (within_same n (found n b) k, k)

on : (n : ℕ) (past : List Arrivals) (a : Arrivals) → AllFit n past → Fits n a → Run 256 n past (after ours n past) → Beyond n (after ours n past) → Steps n past a
unfolding after
on n past a f g r h =
    let b = after ours n past in
    let b1 = arrived 256 n past a b in
    let h1 = arrive-beyond n (length past) a b h in
    let e1 : at_first ours n past a ≡ b1 = came-arrive n (length past) a b ∙ within_same n b1 h1 in
    let d1 = arriving_directed n 256 n (length past) a b (omega arith) g (run_directed 256 n f r) in
    let st1 = found_in_run 256 n past b f r a g in
    let s1 = sent-found n b1 d1 st1 h1 in
    let e2 : sent ours n (at_first ours n past a) ≡ found n b1 = ap (λ (z : Box). sent ours n z) e1 ∙ s1.0 in
    let b3 = depart (found n b1) in
    let h3 = depart-beyond n (found n b1) s1.1 in
    let e3 : left ours n (sent ours n (at_first ours n past a)) ≡ b3 = ap (λ (z : Box). left ours n z) e2 ∙ within_same n b3 h3 in
    let d3 : Directed n b3 = transfer_directed n b1 (find n b1) d1 in
    let st3 = found_in_run_again 256 n past b f r a g (find n b1) st1 in
    let s3 = sent-found n b3 d3 st3 h3 in
    let e4 : after ours n (a ∷ past) ≡ found n b3 = ap (λ (z : Box). sent ours n z) e3 ∙ s3.0 in
    record {
      run = r;
      run_on = subst (λ (z : Box). Run 256 n (a ∷ past) z) (sym e4) (slot a (find n b1) (find n b3) r st1 st3);
      beyond_on = subst (λ (z : Box). Beyond n z) (sym e4) s3.1;
      departures = λ o. ap (λ (z : Box). earliest (z.store o)) e2;
      stable = st1;
      step = e4;
    }

-- our box after any slots
both : (n : ℕ) (past : List Arrivals) → AllFit n past → Run 256 n past (after ours n past) × Beyond n (after ours n past)
unfolding after AllFit
both n [] f = (begin, empty-beyond n)
both n (a ∷ past) f =
    let ih = both n past f.1 in
    let s = on n past a f.1 f.0 ih.0 ih.1 in
    (s.run_on, s.beyond_on)

steps : (n : ℕ) (past : List Arrivals) (a : Arrivals) → AllFit n (a ∷ past) → Steps n past a
unfolding AllFit
steps n past a f =
    let k = both n past f.1 in
    on n past a f.1 f.0 k.0 k.1

pub ours_is_the_models : OursIsTheModels
ours_is_the_models n past a f =
    let s = steps n past a f in
    record { run = s.run; departures = s.departures; step = s.step }

pub ours_is_alike : OursIsAlike
unfolding AllFit
ours_is_alike n [] f = tt
ours_is_alike n (a ∷ past) f =
    let s = steps n past a f in
    let b = after ours n past in (
      ap (λ (g : ℕ → _). map g (range_with_len 0 n)) (fun_ext (λ o. s.departures o ∙ same-departures 256 n past b s.run a (find n (arrived 256 n past a b)) s.stable o)),
      ours_is_alike n past f.1,
    )
