use Rattle.std.proofs.Common.{ℕ, List, ◌++◌, ap, arith}
use Rattle.text.specs.Hex.{hex}
use Rattle.text.proofs.PenLaws.{text_as}
use Rattle.replay.proofs.put_hash.Goals as goal

pub returns : goal.returns
returns c =
    let w = c.args.word.now in
    text_as (omega arith) (ap (λ (h : List ℕ). w ++ hex h) c.hash.ensures) c.put_named.ensures
