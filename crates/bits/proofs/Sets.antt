-- Laws of bits: the lowest that is set, and what setting or clearing one does.
use Rattle.std.proofs.Common.{◌≡◌, ℕ, zero, suc, ◌+◌, ◌-◌, ◌*◌, ◌/◌, ◌%◌, ◌^◌, ◌<◌, min, w32, true, false, cond, not, ◌&&◌, ◌||◌, eqb, sym, refl, ap, ◌∙◌, subst, inl, inr, pow-suc, arith}
use native.Mathlib.Nat.{zero-min, min-zero}
use lib.Bits.{bit_and, bit_or, bit_xor, and_step, and_self, xor_add_and}
use lib.Count.{count_trailing_zeros, under}
use Rattle.std.specs.Int.{bit_at}
use Rattle.std.proofs.lemmas.Nat.{pow_pos, mod_below}
use Rattle.std.proofs.lemmas.Nat.Bits.{bit_at_lowest, bit_at-suc, bit_at-zero, bit_at-lt, bit_at_or, bit_at_xor, bit_at-pow_same, bit_at-pow_other, bit_at-trailing_zeros, and_pow}
use Rattle.std.proofs.lemmas.Bool.{both_ways, cases_eq, cases_order, eqb-true, eq-eqb}
use Rattle.std.proofs.lemmas.Bool.Decides.{nat_tests}
use Rattle.bits.specs.Bits.{is_set, Lowest}

-- a bit that is set is a 1
set-is : (x k : ℕ) → is_set x k ≡ eqb (bit_at x k) 1
unfolding is_set
set-is x k = refl

one-set : (x k : ℕ) → is_set x k ≡ true → bit_at x k ≡ 1
unfolding is_set
one-set x k h = eqb-true (bit_at x k) 1 h

pub none-set : (k : ℕ) → is_set 0 k ≡ false
unfolding is_set
none-set k = ap (λ z. eqb z 1) (bit_at-zero k)

-- the lowest bit that is set
pub lowest_is : (x : ℕ) → 0 < x → x < 2 ^ 32 → Lowest x (count_trailing_zeros 32 x)
unfolding is_set
lowest_is x p h =
    let l = bit_at-trailing_zeros w32 x p h in
    record { small = l.0; here = eq-eqb (bit_at x (count_trailing_zeros 32 x)) 1 l.1; below = λ j i. ap (λ z. eqb z 1) (l.2 j i) }

-- a number that is not 0 has a bit that is set
some_below : (f x : ℕ) → 0 < x → x < 2 ^ f → (k : ℕ) × (bit_at x k ≡ 1)
some_below zero x p h = absurd (omega arith)
some_below (suc f) x p h =
    let e = pow-suc 2 f in
    elim (cases_eq (x % 2) 1) [
      | inl o ↦ (0, bit_at_lowest x ∙ o)
      | inr o ↦ let k = some_below f (x / 2) (omega arith) (omega arith) in (suc k.0, bit_at-suc x k.0 ∙ k.1)
    ]

below_pow : (x : ℕ) → x < 2 ^ x
below_pow zero = omega arith
below_pow (suc x) = let h = below_pow x in let e = pow-suc 2 x in omega arith

pub some-set : (x : ℕ) → 0 < x → (k : ℕ) × (is_set x k ≡ true)
some-set x p = let k = some_below x x p (below_pow x) in (k.0, set-is x k.0 ∙ eq-eqb (bit_at x k.0) 1 k.1)

-- the bits of a power
set-pow : (k j : ℕ) → bit_at (2 ^ k) j ≡ cond (eqb j k) 1 0
set-pow k j =
    elim (cases_eq j k) [
      | inl e ↦ let h : bit_at (2 ^ k) j ≡ 1 = ap (λ (z : ℕ). bit_at (2 ^ k) z) e ∙ bit_at-pow_same k in grind (arith, nat_tests, h)
      | inr e ↦ let h = bit_at-pow_other k j e in grind (arith, nat_tests, h)
    ]

-- one bit set, and one cleared
pub with_is : (x k m : ℕ) → m ≡ 2 ^ k → (j : ℕ) → is_set (bit_or x m) j ≡ (eqb j k || is_set x j)
with_is x k m e j =
    let a = bit_at_or x m j in
    let b : bit_at m j ≡ cond (eqb j k) 1 0 = ap (λ z. bit_at z j) e ∙ set-pow k j in
    let l = bit_at-lt x j in
    let p = set-is x j in
    let q = set-is (bit_or x m) j in
    grind (arith, nat_tests, a, b, l, p, q)

pub without_is : (x k m : ℕ) → m ≡ 2 ^ k → is_set x k ≡ true → (j : ℕ) → is_set (bit_xor x m) j ≡ (not (eqb j k) && is_set x j)
without_is x k m e h j =
    let a = bit_at_xor x m j in
    let b : bit_at m j ≡ cond (eqb j k) 1 0 = ap (λ z. bit_at z j) e ∙ set-pow k j in
    let f : eqb j k ≡ true → is_set x j ≡ true = λ q. ap (λ z. is_set x z) (eqb-true j k q) ∙ h in
    let l = bit_at-lt x j in
    let p = set-is x j in
    let q = set-is (bit_xor x m) j in
    grind (arith, nat_tests, a, b, f, l, p, q)

xor-pow : (x k : ℕ) → is_set x k ≡ true → bit_xor x (2 ^ k) + 2 ^ k ≡ x
xor-pow x k h =
    let a = xor_add_and x (2 ^ k) in
    let b = and_pow x k ∙ ap (λ (z : ℕ). z * 2 ^ k) (one-set x k h) in
    omega arith

pub without-less : (x k m : ℕ) → m ≡ 2 ^ k → is_set x k ≡ true → bit_xor x m < x
without-less x k m e h =
    subst (λ z. bit_xor x z < x) (sym e) (let a = xor-pow x k h in let p = pow_pos k in omega arith)

-- the lowest bit that is set, cleared

clear_under : (k x d t : ℕ) → 0 < x → x % 2 ≡ d → (0 < x / 2 → bit_and (x / 2) (x / 2 - 1) + 2 ^ t ≡ x / 2) → bit_and x (x - 1) + 2 ^ under d t ≡ x
clear_under k x zero t p e f =
    let g = f (omega arith) in
    let h : (x - 1) / 2 ≡ x / 2 - 1 = omega arith in
    let a = and_step x (x - 1) in
    let b = ap (λ z. bit_and (x / 2) z) h in
    let m : min (x % 2) ((x - 1) % 2) ≡ 0 = ap (λ z. min z ((x - 1) % 2)) e ∙ zero-min ((x - 1) % 2) in
    let w = pow-suc 2 t in
    omega arith
clear_under k x (suc d) t p e f =
    let h : (x - 1) / 2 ≡ x / 2 = omega (arith, mod_below x 2 (omega arith)) in
    let a = and_step x (x - 1) in
    let b = ap (λ z. bit_and (x / 2) z) h ∙ and_self (x / 2) in
    let z : (x - 1) % 2 ≡ 0 = omega (arith, mod_below x 2 (omega arith)) in
    let m : min (x % 2) ((x - 1) % 2) ≡ 0 = ap (λ z. min (x % 2) z) z ∙ min-zero (x % 2) in
    omega (arith, mod_below x 2 (omega arith))

clear_of : (k x : ℕ) → 0 < x → x < 2 ^ k → bit_and x (x - 1) + 2 ^ count_trailing_zeros k x ≡ x
unfolding count_trailing_zeros
clear_of zero x p h = absurd (omega arith)
clear_of (suc k) x p h =
    clear_under k x (x % 2) (count_trailing_zeros k (x / 2)) p refl (λ q. clear_of k (x / 2) q (let e = pow-suc 2 k in omega arith))

lowest_one : (x k t : ℕ) → Lowest x k → is_set x t ≡ true → ((j : ℕ) → j < t → is_set x j ≡ false) → t ≡ k
lowest_one x k t l h f =
    elim (cases_order t k) [
      | inl e ↦ e
      | inr e ↦
          elim e [
            | inl a ↦ absurd (both_ways (is_set x t) (l.below t a) h)
            | inr a ↦ absurd (both_ways (is_set x k) (f k a) l.here)
          ]
    ]

pub without_lowest_is : (x : ℕ) → 0 < x → x < 2 ^ 32 → (k j : ℕ) → Lowest x k → is_set (bit_and x (x - 1)) j ≡ (not (eqb j k) && is_set x j)
without_lowest_is x p h k j l =
    let t = count_trailing_zeros 32 x in
    let low = lowest_is x p h in
    let q : t ≡ k = lowest_one x k t l low.here low.below in
    let e : bit_and x (x - 1) ≡ bit_xor x (2 ^ t) = (let a = clear_of 32 x p h in let b = xor-pow x t low.here in omega arith) in
    ap (λ z. is_set z j) (e ∙ ap (λ z. bit_xor x (2 ^ z)) q) ∙ without_is x k (2 ^ k) refl l.here j
