use mathlib.Core.Path.{ap, ◌∙◌}
use mathlib.Core.List.{List, []}
use Prim.Native.Nat.{ℕ}
use native.Mathlib.Omega.{arith}
use lib.ListN.{get_or}
use Rattle.octets.proofs.ChunkLaws.{chunk_at}
use Rattle.sha256.specs.Compression.{compress_from}
use Rattle.sha256.proofs.Runs.{one, two, closing}
use Rattle.sha256.proofs.finish.Goals as goal

pub returns-then-rest-lt56 : goal.returns-then-rest-lt56
returns-then-rest-lt56 c =
    let a = c.args in
    let t = c.fill_last.new.t in
    one a.s _ t (omega arith) c.absorb.ensures ∙ closing a.rest.now t a.n 1 a.s (omega arith) (omega arith) (omega arith) (omega arith) c.fill_last.ensures

pub returns-else-rest-lt56 : goal.returns-else-rest-lt56
returns-else-rest-lt56 c =
    let a = c.args in
    let t = c.fill_last-else-rest-lt56.new.t in
    let block = λ (i : ℕ). ap (λ (l : List (List ℕ)). get_or l i []) c.as_chunks.ensures.front in
    let first = c.absorb-u.ensures ∙ ap (compress_from a.s) (block 0 ∙ chunk_at 64 _ 0 t [] (omega arith)) in
    let second = c.absorb-else-rest-lt56.ensures ∙ ap (compress_from c.absorb-u.result) (block 1 ∙ chunk_at 64 _ 1 t [] (omega arith)) in
    two a.s _ _ t (omega arith) first second ∙ closing a.rest.now t a.n 2 a.s (omega arith) (omega arith) (omega arith) (omega arith) c.fill_last-else-rest-lt56.ensures
