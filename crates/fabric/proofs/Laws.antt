-- The laws of the real box that shows a status.
use Rattle.std.proofs.Common.{◌≡◌, ℕ, zero, suc, ◌<◌, true, List, [], ◌∷◌, length, Some, None, Option, sym, refl, ap, ◌∙◌, subst, arith}
use Rattle.std.proofs.lemmas.Bool.{and_from, lt-ltb}
use Rattle.crossbox.specs.declared.Arrival.{Arrival}
use Rattle.crossbox.specs.declared.Cell.{Cell}
use Rattle.crossbox.specs.Ideal.{first}
use Rattle.crossbox.specs.Box.{Stable, for_output}
use Rattle.crossbox.specs.Matching.{find}
use Rattle.crossbox.specs.Promise.{AllFit}
use Rattle.crossbox.proofs.Promise.{found_in_run, found_in_run_again}
use Rattle.buffer.specs.Memory.{Lent, enough, fresh}
use Rattle.matching.specs.Table.{shown, ended}
use Rattle.cioq.specs.State.{State, unset}
use Rattle.cioq.specs.Choice.{choice_of, waits_in, all_wait}
use Rattle.cioq.proofs.Begun.{made_good}
use Rattle.cioq.proofs.Judged.{judged_stable}
use Rattle.switch.specs.Respond.{SlotIn, body_in}
use Rattle.switch.specs.Respond as respond
use Rattle.switch.specs.Respond.Status.{Unset}
use Rattle.fabric.specs.Real.{box_after, Shows}
use Rattle.fabric.specs.Laws.{at_first, TwoTransfers, ModelIsRun, FoundIsTaken}
use Rattle.fabric.proofs.History.{found-run}
use Rattle.fabric.proofs.Choice.{picks_is}

pub model_is_run : ModelIsRun
model_is_run n past f = found-run n past f

pub two_transfers : TwoTransfers
unfolding box_after AllFit
two_transfers s n x past h =
    let f = h.fit in
    let ps = respond.arrived past in
    let r = found-run n ps f.1 in
    let st = found_in_run 256 n ps (box_after n ps) f.1 r x.arrivals f.0 in
    let st2 = found_in_run_again 256 n ps (box_after n ps) f.1 r x.arrivals f.0 (find n (at_first n x past)) st in
    (h.spells, st.single, st2.single)

some-length : (l : List Cell) (c : Cell) → first l ≡ Some c → 0 < length l
some-length [] c e = absurd (let z : ◌≡◌ {A = ℕ} 0 1 = cc in omega arith)
some-length (d ∷ l) c e = omega arith

pub found_is_taken : FoundIsTaken
unfolding all_wait
found_is_taken r n b p f =
    (judged_stable n (choice_of r.choice) b (λ i c h. let w = p i c h in (w.0, w.1))).1 (all n) (subst (λ (ms : List Cell). Stable b ms) (picks_is n r.choice b) f.stable)
  where
    waits : (i : ℕ) (x : Option Cell) → (ended n b).kept i ≡ x → waits_in (choice_of r.choice i) (b.waiting i) ≡ true
    waits i None e = ap (λ (x : Arrival). waits_in x (b.waiting i)) (f.sends i ∙ ap (λ (x : Option Cell). shown x) e)
    waits i (Some c) e =
        ap (λ (x : Arrival). waits_in x (b.waiting i)) (f.sends i ∙ ap (λ (x : Option Cell). shown x) e)
        ∙ lt-ltb 0 (length (for_output c.output (b.waiting i))) (some-length (for_output c.output (b.waiting i)) c (f.leading i c e))

    all : (k : ℕ) → all_wait k (choice_of r.choice) b ≡ true
    all zero = refl
    all (suc k) = and_from (waits_in (choice_of r.choice k) (b.waiting k)) (all_wait k (choice_of r.choice) b) (waits k ((ended n b).kept k) refl) (all k)

-- a box that was made is not set
pub made_unset : (l : Lent) (s : State) → enough 64 8224 l ≡ true → s ≡ unset (fresh 64 8224 l) → Shows s Unset
made_unset l s e q =
    subst (λ (z : State). Shows z Unset) (sym q) (made_good l e, refl)
