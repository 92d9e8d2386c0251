use mathlib.Core.Path.{◌≡◌, refl, ap, ◌∙◌}
use Rattle.octets.specs.Numbers.{little_bytes}
use Rattle.octets.proofs.NumberLaws.{little_bytes_length}
use Rattle.sprout.specs.Hashes.{note_bytes}
use mathlib.Core.List.{List, [], ◌∷◌, ◌++◌}
use Prim.Native.Nat.{ℕ}
use native.Mathlib.Omega.{arith}
use lib.ListN.{length}
use Rattle.octets.specs.Parts.{zeros}
use borrow.Author.Rules.{rules}
use Rattle.octets.proofs.Joining.{Laid, next, done}
use Rattle.sprout.proofs.note_bytes.Goals as goal

pub returns : goal.returns
unfolding note_bytes
returns c =
    let a = c.args in
    let ha : length a.address.now ≡ 32 = search rules in
    let hv : length c.le_bytes64.result ≡ 8 = ap length c.le_bytes64.ensures ∙ little_bytes_length 8 c.zatoshi.result in
    let hs : length a.rho.now ≡ 32 = search rules in
    let hr : length a.r.now ≡ 32 = search rules in
    let l0 : Laid 1 104 (0xb0 ∷ []) _ = record { behind = zeros 104; made = refl; long = refl; left = refl } in
    let l1 = next a.address.now _ 33 72 (omega arith) (omega arith) c.copy_in.ensures.dst_after l0 in
    let l2 = next c.le_bytes64.result _ 41 64 (omega arith) (omega arith) c.copy_in-2.ensures.dst_after l1 in
    let l3 = next a.rho.now _ 73 32 (omega arith) (omega arith) c.copy_in-3.ensures.dst_after l2 in
    done (next a.r.now _ 105 0 (omega arith) (omega arith) c.copy_in-4.ensures.dst_after l3)
    ∙ ap (λ (v : List ℕ). (0xb0 ∷ []) ++ a.address.now ++ v ++ a.rho.now ++ a.r.now) (c.le_bytes64.ensures ∙ ap (little_bytes 8) c.zatoshi.ensures)
