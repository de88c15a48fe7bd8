-- What the code leaves of the table, in the shapes in which it leaves it.
use Rattle.std.proofs.Common.{◌≡◌, ℕ, ◌+◌, ◌-◌, ◌*◌, ◌^◌, ◌<◌, min, Bool, true, false, cond, ltb, leb, List, ◌++◌, map, length, get_or, take, drop, set, replicate, None, Option, sym, refl, ap, ◌∙◌, arith}
use lib.Bits.{bit_xor}
use mir.Val.{bool_byte}
use Rattle.std.proofs.lemmas.List.Edits.{map_over_more}
use Rattle.std.proofs.lemmas.List.{length-append, length-map, length-take, length-drop, length-replicate, get_or-replicate, get_or_default, ext_get_or}
use Rattle.firsts.specs.declared.Firsts.{Firsts}
use Rattle.firsts.specs.declared.First.{First}
use Rattle.firsts.specs.Firsts.{none, moved, later, sooner, unnoted, after_remove}

byte_cond : (t : Bool) → bool_byte t ≡ cond t 1 0
byte_cond true = refl
byte_cond false = refl

as_long : (f : ℕ → ℕ) (i : ℕ) (xs : List ℕ) → length (map f (take i xs) ++ drop i xs) ≡ length xs
as_long f i xs = simp (length-append, length-map, length-take, length-drop) (omega arith)

-- one more is later, or sooner
module _ (xs ys : List ℕ) (i k : ℕ) (l : i < length xs) where
  pub later_more : (r b : ℕ) → ys ≡ map (later k) (take i xs) ++ drop i xs → b ≡ bool_byte (leb k (get_or ys i 0)) → r ≡ min (get_or ys i 0 + b) (2 ^ 16 - 1) → set ys i r ≡ map (later k) (take (i + 1) xs) ++ drop (i + 1) xs
  later_more r b e p q =
      ap (λ (z : ℕ). set ys i z) (q ∙ ap (λ (z : ℕ). min (get_or ys i 0 + z) 65535) (p ∙ byte_cond (leb k (get_or ys i 0))))
      ∙ map_over_more (later k) xs ys i (get_or ys i 0) l e (get_or_default ys i 0 (get_or ys i 0) (omega (arith, ap length e, as_long (later k) i xs)))

  pub sooner-more : (b : ℕ) → ys ≡ map (sooner k) (take i xs) ++ drop i xs → b ≡ bool_byte (ltb k (get_or ys i 0)) → set ys i (get_or ys i 0 - b) ≡ map (sooner k) (take (i + 1) xs) ++ drop (i + 1) xs
  sooner-more b e p =
      ap (λ (z : ℕ). set ys i (get_or ys i 0 - z)) (p ∙ byte_cond (ltb k (get_or ys i 0)))
      ∙ map_over_more (sooner k) xs ys i (get_or ys i 0) l e (get_or_default ys i 0 (get_or ys i 0) (omega (arith, ap length e, as_long (sooner k) i xs)))

-- zeros, as many as the array has room for
pub zeros_are : (xs : List ℕ) (n : ℕ) → length xs ≡ n → ((k : ℕ) → k < n → get_or xs k 0 ≡ 0) → xs ≡ replicate n 0
zeros_are xs n e h =
    ext_get_or 0 xs (replicate n 0) (e ∙ sym (length-replicate n 0)) (λ k l. h k (omega arith) ∙ sym (get_or-replicate n k 0 0 (omega arith)))

-- a table with no cell
pub none_is : (slots places : List ℕ) → slots ≡ replicate 1024 0 → places ≡ replicate 1024 0 → ◌≡◌ {A = Firsts} (record { waiting = replicate 32 0; slots = slots; places = places }) none
none_is slots places e f = rw (e, f) refl

-- a part of the places that was changed
module _ (i : ℕ) (f : ℕ → ℕ) (t : Firsts) (part : List ℕ) (e : part ≡ map f (take (i * 32 + 32 - i * 32) (drop (i * 32) t.places))) where
  abbrev pub changed : List ℕ
  changed = take (i * 32) t.places ++ (part ++ drop (i * 32 + 32 - i * 32) (drop (i * 32) t.places))

  changed_is : changed ≡ (moved i f t).places
  changed_is =
      let z : i * 32 + 32 - i * 32 ≡ 32 = omega arith in
      ap (λ (p : List ℕ). take (i * 32) t.places ++ (p ++ drop (i * 32 + 32 - i * 32) (drop (i * 32) t.places))) e
      ∙ ap (λ (n : ℕ). take (i * 32) t.places ++ (map f (take n (drop (i * 32) t.places)) ++ drop n (drop (i * 32) t.places))) z

  abbrev pub table : Firsts
  table = record { waiting = t.waiting; slots = t.slots; places = changed }

  pub moved_is : table ≡ moved i f t
  moved_is = ap (λ (p : List ℕ). record { waiting = t.waiting; slots = t.slots; places = p }) changed_is

-- a first cell was taken out
module _ (i o k : ℕ) (next : Option First) (t : Firsts) (part : List ℕ) (e : part ≡ map (sooner k) (take (i * 32 + 32 - i * 32) (drop (i * 32) t.places))) where
  pub remove-none : (x : ℕ) → next ≡ None → x ≡ bit_xor (get_or t.waiting o 0) (2 ^ i) → ◌≡◌ {A = Firsts} (record { waiting = set t.waiting o x; slots = t.slots; places = changed i (sooner k) t part e }) (after_remove i o k next t)
  remove-none x h q =
      ap (λ (z : ℕ). record { waiting = set t.waiting o z; slots = t.slots; places = changed i (sooner k) t part e }) q
      ∙ (ap (λ (z : Firsts). unnoted i o z) (moved_is i (sooner k) t part e) ∙ ap (λ (z : Option First). after_remove i o k z t) (sym h))
