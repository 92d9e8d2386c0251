-- Copies into an array of zeros, one behind the other: the last blocks of a message.
-- Assumes nothing.
use mathlib.Core.Path.{◌≡◌, refl, sym, ap, ◌∙◌}
use mathlib.Core.List.{List, [], ◌∷◌, ◌++◌, append_assoc, append-nil}
use Prim.Native.Nat.{ℕ, suc, ◌+◌, ◌-◌, ◌≤◌}
use native.Mathlib.Omega.{arith}
use lib.ListN.{length, set, length-set, length-append}
use lib.Seq.{set_at}
use Rattle.octets.specs.Parts.{zeros, pasted}
use Rattle.octets.proofs.PartLaws.{zeros_length, zeros_append, pasted_over, pasted_length}

-- t is all zeros; a copy of s to its start, a byte x behind it, a copy of e to its end
pub ending : (s e t a b : List ℕ) (x : ℕ) → length e ≡ 8 → length s + 9 ≤ length t → t ≡ zeros (length t) → a ≡ pasted 0 s t → b ≡ pasted (length t - 8) e (set a (length s) x)
    → b ≡ s ++ ((x ∷ zeros (length t - (length s + 9))) ++ e)
ending s e t a b x he h z p q =
    let n = length s in
    let k = length t - (n + 9) in
    let front = s ++ (x ∷ zeros k) in
    let long : length t ≡ n + suc (k + 8) = omega arith in
    let room : t ≡ zeros n ++ (0 ∷ (zeros k ++ zeros 8)) = z ∙ ap zeros long ∙ zeros_append n (suc (k + 8)) ∙ ap (λ (l : List ℕ). zeros n ++ (0 ∷ l)) (zeros_append k 8) in
    let put : set a n x ≡ front ++ zeros 8 =
    ap (λ (l : List ℕ). set l n x) (p ∙ ap (pasted 0 s) room ∙ pasted_over [] (zeros n) (0 ∷ (zeros k ++ zeros 8)) s 0 refl (zeros_length n))
    ∙ set_at s 0 (zeros k ++ zeros 8) x n refl ∙ sym (append_assoc s (x ∷ zeros k) (zeros 8)) in
    let at : length front ≡ length t - 8 = omega (arith, length-append s (x ∷ zeros k), zeros_length k) in
    q ∙ ap (pasted (length t - 8) e) put ∙ pasted_over front (zeros 8) [] e (length t - 8) at (sym he)
    ∙ ap (λ (l : List ℕ). front ++ l) (append-nil e) ∙ append_assoc s (x ∷ zeros k) e

pub ending_length : (s e t a b : List ℕ) (at i x : ℕ) → a ≡ pasted 0 s t → b ≡ pasted at e (set a i x) → length b ≡ length t
ending_length s e t a b at i x p q =
    ap length q ∙ pasted_length at e (set a i x) ∙ length-set a i x ∙ ap length p ∙ pasted_length 0 s t
