-- The buffer has what the source has from `at` on, as far as both go, and zeros behind it: just such is the field of the buffer's length.
use mathlib.Core.Path.{◌≡◌, refl, ap, ◌∙◌}
use Prim.Native.Nat.{ℕ}
use native.Mathlib.Omega.{arith}
use denote.Ref.{Bor}
use mathlib.Core.List.{List}
use lib.ListN.{length, drop, take, length-drop}
use Rattle.octets.proofs.PartLaws.{field_made, rest_of}
use Rattle.octets.proofs.fill.Goals as goal

pub returns : goal.returns
returns c =
    let a = c.args in
    let rest : c.unwrap_or-rest.result.now ≡ drop a.at a.src.now = ap (λ (b : Bor (List ℕ)). b.now) c.unwrap_or-rest.ensures ∙ rest_of a.src.now a.at _ _ c.get.ensures.lookup refl in
    let front = c.copy_from_slice.ensures.after ∙ ap (take c.min-n.result) rest in
    field_made a.at c.min-n.result a.src.now a.dst.now _ _ (omega arith) (omega (arith, ap length rest)) (λ h. omega (arith, ap length rest, length-drop a.at a.src.now))
    front (c.fill.ensures.after (λ y h. h))
