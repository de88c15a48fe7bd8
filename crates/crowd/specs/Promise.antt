-- The promise of a crowd, on the call that takes a word and gives the answer. Assumes nothing.
use Rattle.std.specs.Prelude.{◌≡◌, ℕ, Bool, List, ◌∷◌, length, take, drop}
use Rattle.crossbox.specs.Box.{Box}
use Rattle.words.specs.declared.fault.Fault.{Fault}
use Rattle.words.specs.Lines.{Line}
use Rattle.words.specs.Writing.{Draft}
use Rattle.switch.specs.Respond.{SlotIn, slot_answer, respond}
use Rattle.switch.specs.Respond.Status.{Running}
use Rattle.crowd.specs.Crowd.{Status, decide, crowd_respond}
use Rattle.crowd.specs.Crowd.Status.{SlotDue, FirstDue}
use Rattle.crowd.specs.Crowd.Verdict.{Refuse, Take, Choose}
use Rattle.crowd.specs.State.{State, Shows}

-- what is written is the answer, and the rest of the buffer is as it was
pub record Answers (st : Status) (word : List ℕ) (before after : Draft) : Type 0 where
  pub size : after.len ≡ length (crowd_respond st word).1
  pub bytes : take after.len after.bytes ≡ (crowd_respond st word).1
  pub rest : drop after.len after.bytes ≡ drop after.len before.bytes

-- a refusal leaves all as it was
abbrev pub Keeps : Status → List ℕ → State → State → Type 0
Keeps st word before after = (fault : Fault) → decide st word ≡ Refuse fault → after ≡ before

-- one turn of the crowd: it answers, it shows the next status, and a refusal leaves all as it was
pub record TurnDone (s after : State) (st : Status) (word : List ℕ) (out written : Draft) : Type 0 where
  pub answers : Answers st word out written
  pub goes : Shows after (crowd_respond st word).0
  pub keeps : Keeps st word s after

-- The answer to a first choice that is taken is the ideal box's answer to the slot before it.
abbrev pub SameAnswer : Type 0
SameAnswer =
    (c : State) (n : ℕ) (s : SlotIn) (past : List SlotIn) (b : Box) (away : List Bool) → Shows c (FirstDue n (s ∷ past) b away) → (word : List ℕ) (ls : List Line) → decide (FirstDue n (s ∷ past) b away) word ≡ Choose ls → (crowd_respond (FirstDue n (s ∷ past) b away) word).1 ≡ slot_answer n past s

-- A slot word is taken, and then a first choice: the answer is what the ideal box answers to the slot word.
abbrev pub SameAsIdeal : Type 0
SameAsIdeal =
    (c : State) (n : ℕ) (past : List SlotIn) (b : Box) → Shows c (SlotDue n past b) → (slot : List ℕ) (ls : List Line) → decide (SlotDue n past b) slot ≡ Take ls → (choice : List ℕ) (ms : List Line) → decide (crowd_respond (SlotDue n past b) slot).0 choice ≡ Choose ms → (crowd_respond (crowd_respond (SlotDue n past b) slot).0 choice).1 ≡ (respond (Running n past) slot).1
