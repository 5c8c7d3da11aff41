use Rattle.std.proofs.Common.{◌∙◌, ◌≡◌, ap, sym, take, true}
use Rattle.scr_terminal.specs.Terminals.{TerminalView}
use Rattle.scr_memory.specs.Memories.{MemoryView, all_followed}
use Rattle.scr_memory.proofs.FollowingLaws.{gone_on_followed}
use Rattle.scr_memory.proofs.TryingLaws.{are_characters_sure}
use Rattle.scr_memory.specs.Spares.{are_sure}
use Rattle.scr_memory.proofs.memories.Memory.follow_characters.Goals as goal

pub returns-clause-followed : goal.returns-clause-followed
returns-clause-followed c =
    let inside = c.self.inside in
    let memory : MemoryView = record {
      rows = inside.terminal.rows;
      columns = inside.terminal.columns;
      state = inside.terminal.state;
      known_rows = inside.rows.items;
      known_spot = inside.spot;
      known_pen = inside.pen;
    } in
    let profile = c.args.profile.now in
    let ops = take c.step_characters-count.result c.args.ops.now in
    let spot = ap (λ (m : MemoryView). m.known_spot) c.self.view_is ∙ c.requires.spot in
    let pen = ap (λ (m : MemoryView). m.known_pen) c.self.view_is ∙ c.requires.pen in
    ap (λ (t : TerminalView). record memory { rows = t.rows; columns = t.columns; state = t.state }) c.step_characters-count.ensures.state
    ∙ gone_on_followed profile ops memory c.step_characters-count.ensures.characters spot pen c.step_characters-count.ensures.defined
    ∙ ap (all_followed profile ops) c.self.view_is

pub returns-clause-sure : goal.returns-clause-sure
returns-clause-sure c =
    let inside = c.self.inside in
    let memory : MemoryView = record {
      rows = inside.terminal.rows;
      columns = inside.terminal.columns;
      state = inside.terminal.state;
      known_rows = inside.rows.items;
      known_spot = inside.spot;
      known_pen = inside.pen;
    } in
    let profile = c.args.profile.now in
    let ops = take c.step_characters-count.result c.args.ops.now in
    let spot = ap (λ (m : MemoryView). m.known_spot) c.self.view_is ∙ c.requires.spot in
    let pen = ap (λ (m : MemoryView). m.known_pen) c.self.view_is ∙ c.requires.pen in
    let sure : are_sure profile ops memory ≡ true = are_characters_sure profile ops memory c.step_characters-count.ensures.characters spot pen c.step_characters-count.ensures.defined in
    ap (are_sure profile ops) (sym c.self.view_is) ∙ sure
