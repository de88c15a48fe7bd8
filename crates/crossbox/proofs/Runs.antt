-- What holds of every box of a run, and the theorems about runs for every stable choice.
use Rattle.std.proofs.Common.{◌≡◌, ℕ, zero, suc, ◌+◌, ◌<◌, ◌≤◌, Bool, true, false, not, ◌&&◌, eqb, ltb, List, [], ◌∷◌, length, sym, refl, ap, ◌∙◌, inl, inr, arith}
use Rattle.std.proofs.lemmas.Bool.{or_cases, and_parts}
use Rattle.crossbox.specs.declared.Arrival.{Arrival}
use Rattle.crossbox.specs.declared.Arrival.TheVariants.{Nothing, For}
use Rattle.crossbox.specs.declared.Cell.{Cell}
use Rattle.crossbox.specs.Cells.{Arrivals, is_in}
use Rattle.crossbox.specs.Ideal.{admitted, queue, rest, full}
use Rattle.crossbox.specs.Box.{Box, Run, begin, slot, Stable, empty, arriving, arrived, transfer, depart, departed, held_for, taken_for, room_for}
use Rattle.crossbox.specs.Shape.{InOrder, rises}
use Rattle.crossbox.specs.Slack.{Slack}
use Rattle.crossbox.specs.Promise.{AllFit, HoldsLike, MoreEarlier, StoresRise, StoresRiseTransferred, SameHeld, SameHeldArriving, SameHeldTransferred, SameHeldDeparted, SameHeldThroughout, SameRejected, PairsInOrder, PairsInOrderAgain, SameDepartures}
use Rattle.crossbox.proofs.Stores.{rises-rest}
use Rattle.crossbox.proofs.Shape.{Placed, empty_placed, none-is_in, arriving_placed, transfer_placed, depart_placed, Directed, arriving_directed, transfer_directed}
use Rattle.crossbox.proofs.Slack.{arriving_slack, transfer_slack, depart_slack}
use Rattle.crossbox.proofs.Held.{admitted-length, admitted_room, queue_room, held-arriving, held-transfer, held-depart}
use Rattle.crossbox.proofs.Same.{SameCells, same-arriving, same-transfer, same-depart, same-departs, rises-admitted}
use Rattle.crossbox.proofs.Pairs.{order_arriving, order_transfer}

-- a box in slot t, with this slack, beside the ideal queues: its shape, its slack, its pairs, and for each output the same
-- cells, and as many
pub record Like (n t k : ℕ) (b : Box) (queues : ℕ → List Cell) : Type 0 where
  pub placed : Placed n t b
  pub slack : Slack k b
  pub order : InOrder b
  pub same : (o : ℕ) → SameCells (queues o) o b
  pub held : (o : ℕ) → held_for n o b ≡ length (queues o)
  pub rising : (o : ℕ) → rises (queues o) ≡ true

-- what stands in the ideal queue has arrived before
like_before : (n t k : ℕ) (b : Box) (qs : ℕ → List Cell) → Like n t k b qs → (o : ℕ) (c : Cell) → is_in c (qs o) ≡ true → c.slot < t
like_before n t k b qs l o c h =
    elim (or_cases (is_in c (b.store o)) (is_in c (b.waiting c.input) && eqb c.output o) (sym (l.same o c) ∙ h)) [
      | inl x ↦ (l.placed.stands o c x).1
      | inr x ↦ (l.placed.waits c.input c (and_parts (is_in c (b.waiting c.input)) (eqb c.output o) x).0).2
    ]

pub like_arriving : (k room n t : ℕ) (a : Arrivals) (b : Box) (qs : ℕ → List Cell) → k ≤ n → Like n t 1 b qs → Like n (suc t) 0 (arriving k room n t a b) (λ o. admitted room k t o a (qs o))
like_arriving k room n t a b qs le l =
    record {
      placed = arriving_placed k room n t a b le l.placed;
      slack = arriving_slack k room n t a b (λ o c h. (l.placed.stands o c h).1) l.slack;
      order = order_arriving k room n t a b l.placed l.slack l.order;
      same = λ o. same-arriving k room n t o a b (qs o) (l.held o) (l.same o);
      held = λ o.
          (let x = held-arriving k room n t o a b n le in
          let y = admitted-length room k t o a (qs o) in
          let z = ap (λ h. h + taken_for room h o a k) (l.held o) in
          x ∙ (z ∙ sym y));
      rising = λ o. rises-admitted room k t o a (qs o) (l.rising o) (like_before n t 1 b qs l o);
    }

pub like_transfer : (n t k : ℕ) (b : Box) (ms : List Cell) (qs : ℕ → List Cell) → Stable b ms → Like n t k b qs → Like n t (suc k) (transfer ms b) qs
like_transfer n t k b ms qs st l =
    record {
      placed = transfer_placed n t b ms st l.placed;
      slack = transfer_slack k b ms st l.slack;
      order = order_transfer b ms l.order;
      same = λ o. same-transfer o b ms (qs o) st (l.same o);
      held = λ o. held-transfer n t o b ms l.placed st ∙ l.held o;
      rising = l.rising;
    }

pub like_depart : (n t k : ℕ) (b : Box) (qs : ℕ → List Cell) → Like n t (suc k) b qs → Like n t k (depart b) (λ o. rest (qs o))
like_depart n t k b qs l =
    record {
      placed = depart_placed n t b l.placed;
      slack = depart_slack k b l.placed.rising l.slack;
      order = l.order;
      same = λ o. same-depart n t k o b (qs o) l.placed l.slack (l.rising o) (l.same o);
      held = λ o. held-depart n t k o b (qs o) l.placed l.slack (l.held o);
      rising = λ o. rises-rest (qs o) (l.rising o);
    }

empty-held : (n o : ℕ) → held_for n o empty ≡ 0
unfolding held_for Rattle.crossbox.specs.Box.for_output
empty-held zero o = refl
empty-held (suc n) o = let ih = empty-held n o in omega arith

empty_like : (room n : ℕ) → Like n 0 1 empty (λ o. queue room n o [])
unfolding queue is_in rises
empty_like room n =
    record {
      placed = empty_placed n;
      slack = λ c h. absurd (none-is_in c h);
      order = λ i c d h. absurd (none-is_in c h);
      same = λ o c. refl;
      held = λ o. empty-held n o;
      rising = λ o. refl;
    }

-- the invariant: every box of a run is like the ideal one, with slack 1
pub run_like : (room n : ℕ) {past : List Arrivals} {b : Box} → Run room n past b → Like n (length past) 1 b (λ o. queue room n o past)
unfolding queue
run_like room n begin = empty_like room n
run_like room n (slot {past} {b} a ms ns r st su) =
    let t = length past in
    let qs : ℕ → List Cell = λ o. queue room n o past in
    let l0 = run_like room n r in
    let l1 = like_arriving n room n t a b qs (omega arith) l0 in
    let l2 = like_transfer n (suc t) 0 (arrived room n past a b) ms (λ o. admitted room n t o a (qs o)) st l1 in
    let l3 = like_depart n (suc t) 0 (transfer ms (arrived room n past a b)) (λ o. admitted room n t o a (qs o)) l2 in
    like_transfer n (suc t) 0 (departed room n past a ms b) ns (λ o. rest (admitted room n t o a (qs o))) su l3

-- the steps of one slot of a run
module _ (room n : ℕ) (past : List Arrivals) (b : Box) (r : Run room n past b) (a : Arrivals) where
  pub arriving_like : (k : ℕ) → k ≤ n → Like n (suc (length past)) 0 (arriving k room n (length past) a b) (λ o. admitted room k (length past) o a (queue room n o past))
  arriving_like k le = like_arriving k room n (length past) a b (λ o. queue room n o past) le (run_like room n r)

  pub arrived_like : Like n (suc (length past)) 0 (arrived room n past a b) (λ o. admitted room n (length past) o a (queue room n o past))
  arrived_like = arriving_like n (omega arith)

  pub transferred_like : (ms : List Cell) → Stable (arrived room n past a b) ms → Like n (suc (length past)) 1 (transfer ms (arrived room n past a b)) (λ o. admitted room n (length past) o a (queue room n o past))
  transferred_like ms st =
      like_transfer n (suc (length past)) 0 (arrived room n past a b) ms (λ o. admitted room n (length past) o a (queue room n o past)) st arrived_like

  pub departed_like : (ms : List Cell) → Stable (arrived room n past a b) ms → Like n (suc (length past)) 0 (departed room n past a ms b) (λ o. rest (admitted room n (length past) o a (queue room n o past)))
  departed_like ms st =
      like_depart n (suc (length past)) 0 (transfer ms (arrived room n past a b)) (λ o. admitted room n (length past) o a (queue room n o past)) (transferred_like ms st)

-- the theorems

pub more-earlier : MoreEarlier
more-earlier room n past b r c h = let f = (run_like room n r).slack c h in omega arith

pub stores_rise : StoresRise
stores_rise room n past b r = (run_like room n r).placed.rising

pub stores_rise_transferred : StoresRiseTransferred
stores_rise_transferred room n past b r a ms st = (transferred_like room n past b r a ms st).placed.rising

holds_like : (room n o : ℕ) (b : Box) (q : List Cell) → held_for n o b ≡ length q → length q ≤ room → HoldsLike room n o b q
holds_like room n o b q e h = (e, omega arith)

pub same-held : SameHeld
same-held room n past b r o =
    holds_like room n o b (queue room n o past) ((run_like room n r).held o) (queue_room room n o past)

pub same-held-arriving : SameHeldArriving
same-held-arriving room n past b r a k le o =
    let q = queue room n o past in
    holds_like room n o (arriving k room n (length past) a b) (admitted room k (length past) o a q) ((arriving_like room n past b r a k le).held o) (admitted_room room k (length past) o a q (queue_room room n o past))

pub same-held_transferred : SameHeldTransferred
same-held_transferred room n past b r a ms st o =
    let q = queue room n o past in
    holds_like room n o (transfer ms (arrived room n past a b)) (admitted room n (length past) o a q) ((transferred_like room n past b r a ms st).held o) (admitted_room room n (length past) o a q (queue_room room n o past))

pub same-held-departed : SameHeldDeparted
unfolding queue
same-held-departed room n past b r a ms st o =
    holds_like room n o (departed room n past a ms b) (queue room n o (a ∷ past)) ((departed_like room n past b r a ms st).held o) (queue_room room n o (a ∷ past))

pub same-held_throughout : SameHeldThroughout
same-held_throughout = (same-held, same-held-arriving, same-held_transferred, same-held-departed)

not-not : (x : Bool) → not (not x) ≡ x
not-not true = refl
not-not false = refl

same_room : (room n i : ℕ) (past : List Arrivals) (b : Box) → Run room n past b → (a : Arrivals) (x : Arrival) → room_for room n i a b x ≡ not (full room n i past a x)
same_room room n i past b r a Nothing = refl
same_room room n i past b r a (For o) =
    let q = queue room n o past in
    let l = admitted-length room i (length past) o a q in
    let e = (run_like room n r).held o in
    ap (λ h. ltb (h + taken_for room h o a i) room) e ∙ (ap (λ h. ltb h room) (sym l) ∙ sym (not-not (ltb (length (admitted room i (length past) o a q)) room)))

pub same-rejected : SameRejected
same-rejected room n past b r a i = same_room room n i past b r a (a i)

pub pairs_in_order : PairsInOrder
pairs_in_order room n past b r a = (arrived_like room n past b r a).order

pub pairs_in_order_again : PairsInOrderAgain
pairs_in_order_again room n past b r a ms st = (departed_like room n past b r a ms st).order

pub same-departures : SameDepartures
same-departures room n past b r a ms st o =
    let l = transferred_like room n past b r a ms st in
    let q = admitted room n (length past) o a (queue room n o past) in
    same-departs n (suc (length past)) 0 o (transfer ms (arrived room n past a b)) q l.placed l.slack (l.rising o) (l.same o)

-- where all that arrives is for the outputs that are there, so is all that waits
pub run_directed : (room n : ℕ) {past : List Arrivals} {b : Box} → AllFit n past → Run room n past b → Directed n b
unfolding AllFit
run_directed room n f begin = λ i c h. absurd (none-is_in c h)
run_directed room n f (slot {past} {b} a ms ns r st su) =
    let d = arriving_directed n room n (length past) a b (omega arith) f.0 (run_directed room n f.1 r) in
    transfer_directed n (departed room n past a ms b) ns (transfer_directed n (arrived room n past a b) ms d)
