use Rattle.scr_terminal.proofs.MarkLaws.{others_stay}
use Rattle.scr_terminal.proofs.WritingLaws.{ahead_are_characters, ahead_count, ahead_fits, ahead_is_defined, gone_ahead}
use Rattle.scr_terminal.proofs.terminal.Terminal.step_characters.Goals as goal

pub returns-clause-count : goal.returns-clause-count
returns-clause-count c = ahead_count c.args.self.now c.args.ops.now c.write_ahead.result c.write_ahead.ensures.count

pub returns-clause-inside : goal.returns-clause-inside
returns-clause-inside c =
    let count = ahead_count c.args.self.now c.args.ops.now c.write_ahead.result c.write_ahead.ensures.count in
    ahead_fits c.args.self.now.columns c.args.self.now.state.spot c.args.ops.now c.write_ahead.result count

pub returns-clause-characters : goal.returns-clause-characters
returns-clause-characters c =
    let count = ahead_count c.args.self.now c.args.ops.now c.write_ahead.result c.write_ahead.ensures.count in
    ahead_are_characters c.args.self.now.columns c.args.self.now.state.spot c.args.ops.now c.write_ahead.result count

pub returns-clause-defined : goal.returns-clause-defined
returns-clause-defined c =
    let count = ahead_count c.args.self.now c.args.ops.now c.write_ahead.result c.write_ahead.ensures.count in
    ahead_is_defined c.look_grid_laws.ensures c.args.profile.now c.args.self.now c.args.ops.now c.write_ahead.result c.size-size.ensures.terminal c.requires.columns count

pub returns-clause-state : goal.returns-clause-state
returns-clause-state c =
    let count = ahead_count c.args.self.now c.args.ops.now c.write_ahead.result c.write_ahead.ensures.count in
    gone_ahead c.look_grid_laws.ensures c.args.profile.now c.args.self.now c.write_ahead.new.self c.args.ops.now c.write_ahead.result c.size-size.ensures.terminal c.requires.columns count
    c.write_ahead.ensures.state

pub returns-clause-others : goal.returns-clause-others
returns-clause-others c = others_stay c.grid_laws.ensures c.args.self.now c.write_ahead.new.self c.size-size.ensures.terminal c.args.ops.now c.write_ahead.result c.write_ahead.ensures.count c.write_ahead.ensures.state
