-- A text that is well formed.
use Rattle.std.proofs.Common.{ap}
use mathlib.Core.Logic.{inl}
use Rattle.std.specs.Str.{chars}
use Rattle.scr_windows.specs.Calls.Adding.{add_str_call}
use Rattle.huttavel_c.specs.Replies.{added_reply}
use Rattle.huttavel_c.proofs.CharacterLaws.{answered}
use Rattle.huttavel_c.proofs.TextLaws.{whole_read}
use Rattle.huttavel_c.proofs.sessions.Session.add_utf8.Goals as goal

pub returns-in-Ok : goal.returns-in-Ok
returns-in-Ok c =
    let cases = c.in-Ok.ensures.cases in
    let desk = c.args.self.now.screen.desk in (
      chars c.args.bytes.now,
      whole_read c.args.bytes.now cases.1,
      inl (answered added_reply c.args.self.now c.add_str.new.self c.add_str.result c.added.result (add_str_call desk c.args.window (chars c.in-Ok.text.now)) (add_str_call desk c.args.window (chars c.args.bytes.now)) c.add_str.ensures c.added.ensures
          (ap (λ bytes. add_str_call desk c.args.window (chars bytes)) cases.0)),
    )
