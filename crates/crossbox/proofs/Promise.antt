-- There is always a stable choice, the one that is found; and with it the promise of the whole.
use Rattle.std.proofs.Common.{ℕ, suc, length, arith}
use Rattle.crossbox.specs.Box.{Box, arrived, departed}
use Rattle.crossbox.specs.Shape.{WellPlaced}
use Rattle.crossbox.specs.Promise.{Matched, MatchedAgain, Main}
use Rattle.crossbox.specs.Matching.{after_asks, pairs, find, FoundIsStable, FoundInRun, FoundInRunAgain}
use Rattle.crossbox.proofs.Shape.{Placed, Directed, arriving_directed, transfer_directed}
use Rattle.crossbox.proofs.Runs.{run_directed, arrived_like, departed_like, more-earlier, same-held_throughout, same-rejected, pairs_in_order, pairs_in_order_again, same-departures}
use Rattle.crossbox.proofs.Finding.{good_after, ended_stable}
use Rattle.crossbox.proofs.Asks.{finding_ends}

pub found_is_stable : FoundIsStable
found_is_stable n b p r =
    ended_stable n b (after_asks (pairs n b) n b) p (good_after n b p r (pairs n b)) (finding_ends n b p)

well_placed : (n t : ℕ) (b : Box) → Placed n t b → Directed n b → WellPlaced n b
well_placed n t b p d i c h = let w = p.waits i c h in (w.0, w.1, d i c h)

pub found_in_run : FoundInRun
found_in_run room n past b f r a g =
    let b' = arrived room n past a b in
    let l = arrived_like room n past b r a in
    let d = arriving_directed n room n (length past) a b (omega arith) g (run_directed room n f r) in
    found_is_stable n b' (well_placed n (suc (length past)) b' l.placed d) l.order

pub found_in_run_again : FoundInRunAgain
found_in_run_again room n past b f r a g ms st =
    let b' = departed room n past a ms b in
    let l = departed_like room n past b r a ms st in
    let d = arriving_directed n room n (length past) a b (omega arith) g (run_directed room n f r) in
    found_is_stable n b' (well_placed n (suc (length past)) b' l.placed (transfer_directed n (arrived room n past a b) ms d)) l.order

pub matched : Matched
matched room n past b f r a g = (find n (arrived room n past a b), found_in_run room n past b f r a g)

pub matched_again : MatchedAgain
matched_again room n past b f r a g ms st =
    (find n (departed room n past a ms b), found_in_run_again room n past b f r a g ms st)

pub main : Main
main =
    (same-departures, same-rejected, same-held_throughout, more-earlier, pairs_in_order, pairs_in_order_again, matched, matched_again)
