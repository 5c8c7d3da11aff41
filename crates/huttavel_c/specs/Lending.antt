-- What is asked of a window that a screen lends.
use Rattle.std.specs.Prelude.{ℕ, ◌==◌, Option, Some, None, Result, Ok, Err, if◌then◌else◌}
use Rattle.scr_windows.specs.Lending.{LentView}
use Rattle.scr_windows.specs.declared.faults.WinFault.{WinFault}
use Rattle.huttavel_c.specs.Numbers.{window_number}
use Rattle.huttavel_c.specs.Replies.{as_number, refused, with_one, with_two}
use Rattle.huttavel_c.specs.declared.answers.Reply.{Reply}

-- A parent's number, if there is one.
abbrev pub parent_reply : Option ℕ → Reply
parent_reply (Some number) = with_one number
parent_reply None = refused 25

-- What is asked by a number, of a window that is lent.
unfoldable pub property_of_lent : ℕ → LentView → Reply
property_of_lent kind lent =
    if kind == 0 then with_two (lent.window.state.attrs.0, lent.window.state.pair) else
    if kind == 1 then parent_reply lent.window.frame.parent else
    with_two lent.window.state.region

-- The settings that are on or off.
unfoldable pub setting_of_lent : ℕ → LentView → Reply
setting_of_lent kind lent =
    if kind == 0 then with_one (as_number lent.window.state.scroll_ok) else
    if kind == 1 then with_one (as_number lent.window.state.clear_ok) else
    with_one (as_number lent.window.state.leave_ok)

-- What is asked of a window, if there is such a window.
abbrev pub lent_reply : (LentView → Reply) → Result LentView WinFault → Reply
lent_reply asked (Ok lent) = asked lent
lent_reply asked (Err fault) = refused (window_number fault)
