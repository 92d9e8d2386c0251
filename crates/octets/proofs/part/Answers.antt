-- Where s has N bytes from `at` on, they are the field; else it is filled in.
use mathlib.Core.Path.{◌≡◌, sym, ap, ◌∙◌}
use native.Mathlib.Omega.{arith}
use lib.ListN.{length, drop, take}
use Rattle.std.proofs.lemmas.Slice.{between_to_end}
use Rattle.octets.proofs.PartLaws.{field_begins}
use Rattle.octets.proofs.part.Goals as goal

pub returns-in-Some-first_chunk : goal.returns-in-Some-first_chunk
returns-in-Some-first_chunk g c =
    let a = c.args in
    let rest : c.in-Some.rest.now ≡ drop a.at a.s.now = c.in-Some.ensures.lookup.0.2 ∙ between_to_end a.s.now a.at (length a.s.now) (omega arith) in
    let w = c.in-Some-first_chunk.ensures.cases in
    w.same ∙ ap (take g.row.N) rest ∙ sym (field_begins a.at g.row.N a.s.now (omega (arith, w.enough, ap length rest)))
