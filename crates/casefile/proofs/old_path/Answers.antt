-- What the file has from the path's place on, 928 bytes of it or as many as there are.
use mathlib.Core.Path.{◌≡◌, refl, ap, ◌∙◌}
use mathlib.Core.List.{List}
use Prim.Native.Nat.{ℕ}
use denote.Ref.{Bor}
use lib.ListN.{drop, take}
use Rattle.octets.proofs.PartLaws.{rest_of}
use Rattle.casefile.proofs.Places.{take_up_to, path_part}
use Rattle.casefile.proofs.old_path.Goals as goal

pub returns : goal.returns
returns c =
    let a = c.args in
    let case = a.case.now in
    let at = c.old_at.result in
    let rest : c.unwrap_or-rest.result.now ≡ drop at case = ap (λ (b : Bor (List ℕ)). b.now) c.unwrap_or-rest.ensures ∙ rest_of case at _ _ c.get.ensures.lookup refl in
    ap (λ (n : ℕ). take n c.unwrap_or-rest.result.now) c.min.ensures ∙ take_up_to 928 c.unwrap_or-rest.result.now ∙ ap (take 928) rest ∙ path_part case a.i at c.old_at.ensures
