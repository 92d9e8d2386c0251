use mathlib.Core.Path.{◌≡◌, ◌∙◌}
use Rattle.units.specs.Pairs.{number_of}
use Rattle.tree.specs.Record.{path_end}
use Rattle.casefile.specs.Layout.{present_of, of_old}
use Rattle.casefile.specs.Fields.{old_position_of}
use Rattle.statement.specs.CaseRefusals.{old_commitment_of, path_end_of}
use Rattle.statement.proofs.PathLaws.{same_end}
use Rattle.statement.proofs.path_end.Goals as goal

pub returns : goal.returns
unfolding path_end_of
returns c =
    let a = c.args in
    let i = number_of a.i in
    let end : c.climb.result ≡ path_end (old_commitment_of i a.case.now) (old_position_of i a.case.now) (present_of (of_old i 6) a.case.now) = cc in
    end ∙ same_end a.i a.case.now (old_commitment_of i a.case.now) (old_position_of i a.case.now)
