-- One return for each kind of thing that stands next on the tray: a bag, a name, the end, or a broken tray.
use mathlib.Core.Path.{◌≡◌, sym, ap, ◌∙◌}
use native.Mathlib.Omega.{arith}
use Rattle.std.specs.Prelude.{Ok, Some, None}
use Rattle.text.proofs.PenLaws.{start, holds, rendered_as}
use Rattle.tray.specs.declared.Item.TheVariants.{Bag, Name}
use Rattle.tray.specs.Tray.{Next, lines_for}
use Rattle.tray.proofs.page_of.Goals as goal

pub returns-in-Ok-Some-Bag : goal.returns-in-Ok-Some-Bag
unfolding lines_for
returns-in-Ok-Some-Bag c =
    let b = c.args.buffer.now in
    let q = c.in-Ok-Some-Bag in
    let some : q.field-0 ≡ Some q.field-0-0 = rw q.is at q.field-0-is in
    let item : q.field-0-0 ≡ Bag q.n = rw (q.is, some) at q.field-0-0-is in
    let e = q.is ∙ ap Ok (some ∙ ap Some item) in
    rendered_as (ap (λ (x : Next). lines_for x b) (sym e)) c.scan_lines.ensures

pub returns-in-Ok-Some-Name : goal.returns-in-Ok-Some-Name
unfolding lines_for
returns-in-Ok-Some-Name c =
    let b = c.args.buffer.now in
    let q = c.in-Ok-Some-Name in
    let some : q.field-0 ≡ Some q.field-0-0 = rw q.is at q.field-0-is in
    let item : q.field-0-0 ≡ Name q.n = rw (q.is, some) at q.field-0-0-is in
    let e = q.is ∙ ap Ok (some ∙ ap Some item) in
    rendered_as (ap (λ (x : Next). lines_for x b) (sym e)) c.name_page.ensures

pub returns-in-Ok-None : goal.returns-in-Ok-None
unfolding lines_for
returns-in-Ok-None c =
    let b = c.args.buffer.now in
    let q = c.in-Ok-None in
    let none : q.field-0 ≡ None = rw q.is at q.field-0-is in
    let e = q.is ∙ ap Ok none in
    rendered_as (ap (λ (x : Next). lines_for x b) (sym e)) (holds {n = 640} (omega arith) c.new.ensures (start _))

pub returns-in-Err : goal.returns-in-Err
unfolding lines_for
returns-in-Err c =
    let b = c.args.buffer.now in
    rendered_as (ap (λ (x : Next). lines_for x b) (sym c.in-Err.is)) c.broken_page.ensures
