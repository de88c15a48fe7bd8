-- The plain machine has the queues of the definitions.
use Rattle.std.proofs.Common.{◌≡◌, ℕ, suc, List, [], ◌∷◌, length, refl, ap}
use Rattle.crossbox.specs.Cells.{Arrivals}
use Rattle.crossbox.specs.Ideal.{queue}
use Rattle.crossbox.specs.Machine.{run, MachineIsQueues}

run-now : (room n : ℕ) (past : List Arrivals) → (run room n past).now ≡ length past
unfolding run
run-now room n [] = refl
run-now room n (a ∷ past) = ap suc (run-now room n past)

run-queue : (room n : ℕ) (past : List Arrivals) (o : ℕ) → (run room n past).queues o ≡ queue room n o past
unfolding run queue
run-queue room n [] o = refl
run-queue room n (a ∷ past) o =
    let t = run-now room n past in
    let q = run-queue room n past o in
    rw (t, q)

pub machine_is_queues : MachineIsQueues
machine_is_queues room n past = (run-now room n past, run-queue room n past)
