use mathlib.Core.Path.{ap, ◌∙◌}
use Rattle.form.specs.declared.fields.Field.{Field}
use Rattle.form.specs.Lines.{Blank, up_to}
use Rattle.form.specs.Fields.{fields}
use Rattle.form.proofs.FieldLaws.{entry_of, entry_at, name_at}
use borrow.Author.Rules.{rules}
use Rattle.form.proofs.fields.entry.Goals as goal

pub returns-clause-name : goal.returns-clause-name
unfolding fields entry_of
returns-clause-name c = ap (λ (f : Field). up_to Blank f.0) (entry_at _ c.args.k (search rules)) ∙ name_at c.args.k (search rules)

pub returns-clause-gap : goal.returns-clause-gap
unfolding fields entry_of
returns-clause-gap c = ap (λ (f : Field). f.1) (entry_at _ c.args.k (search rules))

pub returns-clause-kind : goal.returns-clause-kind
unfolding fields entry_of
returns-clause-kind c = ap (λ (f : Field). f.2) (entry_at _ c.args.k (search rules))
