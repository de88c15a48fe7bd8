-- What a box does with a word, as its promise says it.
use Rattle.std.proofs.Common.{◌≡◌, ℕ, List, Ok, Err, Result, sym, refl, ap, ◌∙◌, inl, inr, ⊎_elim, arith}
use Rattle.buffer.specs.Memory.{Lent}
use Rattle.words.specs.declared.fault.Fault.{Fault}
use Rattle.words.specs.Writing.{Draft, appended, cleared, refusal_bytes}
use Rattle.switch.specs.Respond.{Status, Verdict, decide}
use Rattle.switch.specs.Respond.Status.{Unset, Running}
use Rattle.switch.specs.Respond.Verdict.{Refuse, Begin, Take}
use Rattle.switch.specs.Taking.{Takes}
use Rattle.switch.proofs.Turning.{Turn, turn_refused, turn_begun, turn_taken}

not_err : (r : Result (Unit {0}) Fault) (fault : Fault) → r ≡ Err fault → r ≡ Ok tt → ⊥
not_err r fault p q = let z : ◌≡◌ {A = ℕ} 0 1 = cc in omega arith

same_err : (r : Result (Unit {0}) Fault) (a b : Fault) → r ≡ Err a → r ≡ Err b → a ≡ b
same_err r a b p q = cc

module _ (S : Type 0) (shows : S → Status → Type 0) (lent : S → Lent) (width : ℕ) (s after : S) (word : List ℕ) (r : Result (Unit {0}) Fault) (out written : Draft) where
  -- a word that was taken
  pub taken_turn : (st : Status) (v : Verdict) → decide st word ≡ v → shows s st → Takes shows lent width st s after r out written v → r ≡ Ok tt → Turn S lent width shows s after st word out written
  taken_turn st (Refuse fault) e h t k = absurd (not_err r fault t.0 k)
  taken_turn st (Begin n) e h t k =
      let b = t.1 in
      turn_begun S lent width shows s after st word out written n e b.shown b.left b.cells t.2
  taken_turn Unset (Take ls) e h t k = absurd t
  taken_turn (Running n past) (Take ls) e h t k =
      let b = t.1 in
      turn_taken S lent width shows s after n past ls word out written e b.shown b.answer b.left
      (λ p. ⊎_elim (λ q. inl q)
      (λ q. inr (record { n = n; past = past; lines = ls; input = q.input; output = q.output; running = refl; slot = e; there = q.there; arrives = q.arrives; taken = q.taken; free = q.free; bytes = q.bytes }))
      (b.places p))

  -- a word that was refused, when its refusal has been written
  pub refused_turn : (st : Status) (v : Verdict) → decide st word ≡ v → shows s st → Takes shows lent width st s after r out written v → (fault : Fault) → r ≡ Err fault → (told : Draft) → told ≡ appended (refusal_bytes fault) (cleared written) → Turn S lent width shows s after st word out told
  refused_turn st (Refuse cause) e h t fault k told o =
      let same = same_err r cause fault t.0 k in
      turn_refused S lent width shows s after st word out told cause h e t.1
      (o ∙ (ap (λ (f : Fault). appended (refusal_bytes f) (cleared written)) (sym same) ∙ ap (λ (d : Draft). appended (refusal_bytes cause) (cleared d)) t.2))
  refused_turn st (Begin n) e h t fault k told o = absurd (not_err r fault k t.0)
  refused_turn Unset (Take ls) e h t fault k told o = absurd t
  refused_turn (Running n past) (Take ls) e h t fault k told o = absurd (not_err r fault k t.0)
