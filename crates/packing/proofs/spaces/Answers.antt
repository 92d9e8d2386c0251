use Rattle.std.proofs.Common.{◌≡◌, ℕ, nat_eq, rules, ◌∙◌}
use Rattle.std.specs.List.{count_by}
use Rattle.packing.specs.Words.{space}
use Rattle.packing.proofs.WordLaws.{count_as}
use Rattle.packing.proofs.spaces.Goals as goal

pub returns : goal.returns
returns c =
    let e : c.count.result ≡ count_by (λ (y : ℕ). nat_eq y 32) c.args.line.now = search rules in
    e ∙ count_as space c.args.line.now
