-- One turn of any box that shows a status: a refusal, new settings, a slot.
use Rattle.std.proofs.Common.{◌≡◌, ℕ, ◌*◌, ◌⊎◌, List, [], ◌∷◌, map, length, get_or, take, drop, sym, ap, ◌∙◌, subst, inl, arith}
use Rattle.std.specs.List.{range_with_len}
use Rattle.crossbox.specs.Ideal.{departure, rejected}
use Rattle.buffer.specs.Memory.{Lent}
use Rattle.buffer.specs.Lent.{beyond}
use Rattle.words.specs.declared.fault.Fault.{Fault}
use Rattle.words.specs.Lines.{Line}
use Rattle.words.specs.Writing.{Draft, overwrite, appended, cleared, refusal_bytes}
use Rattle.words.specs.Answer.{Written}
use Rattle.words.proofs.Overwrites.{overwrite_front, overwrite-behind}
use Rattle.words.proofs.Answered.{answer_front, answer-behind}
use Rattle.switch.specs.Respond.{Status, Verdict, SlotIn, arrived, slot_of, with_body, slot_answer, decide, outcome, respond}
use Rattle.switch.specs.Respond.Status.{Running}
use Rattle.switch.specs.Respond.Verdict.{Refuse, Begin, Take}
use Rattle.switch.specs.Promise.{Answers, Keeps, PutThere, lines_of}

-- what is written to the front of a buffer
pub written_front : (bytes out written : List ℕ) (r : ℕ) → r ≡ length bytes → written ≡ overwrite 0 bytes out → (take r written ≡ bytes) × (drop r written ≡ drop r out)
written_front bytes out written r e f = (
  ap (λ (k : ℕ). take k written) e ∙ (ap (λ (xs : List ℕ). take (length bytes) xs) f ∙ overwrite_front bytes out),
  ap (λ (k : ℕ). drop k written) e ∙ (ap (λ (xs : List ℕ). drop (length bytes) xs) f ∙ (overwrite-behind bytes out ∙ ap (λ (k : ℕ). drop k out) (sym e))),
)

not_refused : (v : Verdict) (fault : Fault) (ls : List Line) → v ≡ Refuse fault → v ≡ Take ls → ⊥
not_refused v fault ls p q = let z : ◌≡◌ {A = ℕ} 0 1 = cc in omega arith

not_refused' : (v : Verdict) (fault : Fault) (n : ℕ) → v ≡ Refuse fault → v ≡ Begin n → ⊥
not_refused' v fault n p q = let z : ◌≡◌ {A = ℕ} 0 1 = cc in omega arith

module _ (S : Type 0) (lent_of : S → Lent) (width : ℕ) (Shows : S → Status → Type 0) where
  -- one turn, as the trait promises it
  pub record Turn (s after : S) (st : Status) (word : List ℕ) (out written : Draft) : Type 0 where
    pub answers : Answers st word out written
    pub goes : Shows after (respond st word).0
    pub keeps : Keeps width st word (lent_of s) (lent_of after)

  module _ (s after : S) (st : Status) (word : List ℕ) (out written : Draft) where
    pub turn_refused : (fault : Fault) → Shows s st → decide st word ≡ Refuse fault → after ≡ s → written ≡ appended (refusal_bytes fault) (cleared out) → Turn s after st word out written
    turn_refused fault h e same written_is =
        let a : respond st word ≡ (st, refusal_bytes fault) = ap (λ (v : Verdict). outcome st v) e in
        let size = ap (λ (d : Draft). d.len) written_is in
        let w = written_front (refusal_bytes fault) out.bytes written.bytes written.len size (ap (λ (d : Draft). d.bytes) written_is) in
        let m = ap (λ (z : S). lent_of z) same in
        record {
          answers = record { size = size ∙ sym (ap (λ x. length x.1) a); bytes = w.0 ∙ sym (ap (λ x. x.1) a); rest = w.1 };
          goes = subst (λ (z : Status). Shows after z) (sym (ap (λ x. x.0) a)) (subst (λ (z : S). Shows z st) (sym same) h);
          keeps = record { refused = λ _ _. m; unneeded = ap (λ (l : Lent). beyond (257 * lines_of (respond st word).0) (width * lines_of (respond st word).0) l) m; places = λ p. inl (ap (λ (l : Lent). get_or l.cells p []) m) };
        }

    pub turn_begun : (n : ℕ) → decide st word ≡ Begin n → Shows after (Running n []) → beyond (257 * n) (width * n) (lent_of after) ≡ beyond (257 * n) (width * n) (lent_of s) → (lent_of after).cells ≡ (lent_of s).cells → written ≡ cleared out → Turn s after st word out written
    turn_begun n e g u cs o =
        let z = ap (λ (d : Draft). d.len) o in
        let a : respond st word ≡ (Running n [], []) = ap (λ (v : Verdict). outcome st v) e in
        let ln : lines_of (respond st word).0 ≡ n = ap (λ x. lines_of x.0) a in
        record {
          answers = record { size = z ∙ sym (ap (λ x. length x.1) a); bytes = ap (λ (k : ℕ). take k written.bytes) z ∙ sym (ap (λ x. x.1) a); rest = ap (λ (d : Draft). drop written.len d.bytes) o };
          goes = subst (λ (x : Status). Shows after x) (sym (ap (λ x. x.0) a)) g;
          keeps = record { refused = λ fault q. absurd (not_refused' (decide st word) fault n q e); unneeded = subst (λ (k : ℕ). beyond (257 * k) (width * k) (lent_of after) ≡ beyond (257 * k) (width * k) (lent_of s)) (sym ln) u; places = λ p. inl (ap (λ (xs : List (List ℕ)). get_or xs p []) cs) };
        }

  pub turn_taken : (s after : S) (n : ℕ) (past : List SlotIn) (ls : List Line) (word : List ℕ) (out written : Draft) → decide (Running n past) word ≡ Take ls → Shows after (Running n (slot_of ls ∷ past)) →
      Written out.bytes written.bytes written.len (map (λ o. with_body (slot_of ls ∷ past) (departure 256 n o (arrived past) (slot_of ls).arrivals)) (range_with_len 0 n)) (map (λ i. rejected 256 n i (arrived past) (slot_of ls).arrivals) (range_with_len 0 n)) →
      beyond (257 * n) (width * n) (lent_of after) ≡ beyond (257 * n) (width * n) (lent_of s) →
      ((p : ℕ) → (get_or (lent_of after).cells p [] ≡ get_or (lent_of s).cells p []) ⊎ PutThere (Running n past) word (lent_of s) (lent_of after) p) →
      Turn s after (Running n past) word out written
  turn_taken s after n past ls word out written e g w u pl =
      let st = Running n past in
      let a : respond st word ≡ (Running n (slot_of ls ∷ past), slot_answer n past (slot_of ls)) = ap (λ (v : Verdict). outcome st v) e in
      let ln : lines_of (respond st word).0 ≡ n = ap (λ x. lines_of x.0) a in
      record {
        answers = record { size = w.next ∙ sym (ap (λ x. length x.1) a); bytes = answer_front out.bytes written.bytes written.len _ _ w ∙ sym (ap (λ x. x.1) a); rest = answer-behind out.bytes written.bytes written.len _ _ w };
        goes = subst (λ (z : Status). Shows after z) (sym (ap (λ x. x.0) a)) g;
        keeps = record { refused = λ fault q. absurd (not_refused (decide st word) fault ls q e); unneeded = subst (λ (k : ℕ). beyond (257 * k) (width * k) (lent_of after) ≡ beyond (257 * k) (width * k) (lent_of s)) (sym ln) u; places = pl };
      }
