-- Where there is no window, and where memory ran out.
use Rattle.std.proofs.Common.{◌∙◌, ap, refl, sym, Err}
use mathlib.Core.Logic.{inl, inr}
use Rattle.scr_windows.specs.Calls.Adding.{add_str_call}
use Rattle.huttavel_c.specs.Replies.{added_reply, refused}
use Rattle.huttavel_c.proofs.CharacterLaws.{answered}
use Rattle.huttavel_c.proofs.TextLaws.{is_read}
use Rattle.huttavel_c.proofs.WindowLaws.{text_refused, text_taken}
use Rattle.huttavel_c.proofs.sessions.Session.add_broken.Goals as goal

pub returns-in-Err : goal.returns-in-Err
returns-in-Err c =
    let session = c.args.self.now in
    let desk = session.screen.desk in
    let read = is_read c.args.bytes.now in
    let fault = c.in-Err.fault in
    let none = text_refused desk c.args.window read.0 fault (sym c.size.ensures ∙ c.in-Err.is) in (
      read.0,
      read.1,
      inl (answered added_reply session session.screen (Err fault) c.refused.result (desk, Err fault) (add_str_call desk c.args.window read.0) (refl, refl) (c.refused.ensures ∙ ap refused c.window_number.ensures) (sym none)),
    )

pub returns-in-Err-readable : goal.returns-in-Err-readable
returns-in-Err-readable c =
    let desk = c.args.self.now.screen.desk in
    let read = is_read c.args.bytes.now in
    (read.0, read.1, inr (refl, c.refused-in-Err-readable.ensures, text_taken desk c.args.window read.0 c.in_default.field-0 (sym c.size.ensures ∙ c.in_default.is), c.requires))
