use mathlib.Core.Path.{ap, ◌∙◌}
use mathlib.Core.List.{List, []}
use Prim.Native.Nat.{ℕ, ◌/◌}
use native.Mathlib.Omega.{arith}
use lib.ListN.{length, get_or, take}
use Rattle.std.specs.Int.{w64, from_be_bytes}
use Rattle.std.proofs.Common.{length-take-le}
use Rattle.octets.proofs.ChunkLaws.{chunk_at}
use Rattle.octets.proofs.WordLaws.{big_from}
use Rattle.judge.proofs.order.first_word.Goals as goal

pub returns-clause-number : goal.returns-clause-number
returns-clause-number c =
    let row = c.args.row.now in
    let bytes = ap (λ (l : List (List ℕ)). get_or l 0 []) c.as_chunks.ensures.front ∙ chunk_at 8 (length row / 8) 0 row [] (omega arith) in
    c.from_be_bytes.ensures ∙ ap (from_be_bytes w64) bytes ∙ big_from w64 (take 8 row) (length-take-le 8 row (omega arith))
