use Rattle.std.proofs.Common.{rules}
use Rattle.streams.proofs.Laws.Tried.{of_writes, weaker}
use Rattle.streams.proofs.try_parts.Goals as goal

-- what each part that was written adds, put together over the parts of the text
pub returns-then-shows : goal.returns-then-shows
returns-then-shows g c all =
    let held = g.W.Write.contents in
    let given = c.new-f.ensures.writer in
    let back = c.into_inner-inner.ensures in
    weaker (g.D.Display.output c.args.shown) _ _
    (λ bs k.
    let (same, appended) = of_writes (λ s. s.inner.ghost_name) (λ s. s.all) (λ s. held s.inner.now) _ bs _ (k c.new-f.ensures.plain (search rules)).wrote in
    search rules)
    c.write.ensures.writes
