use Rattle.std.proofs.Common.{rules, ◌≡◌, Bool, true, false, IsTrue}
use Rattle.scr_terminal.proofs.leading.moved_by.Goals as goal

never : {R : Type 0} (b : Bool) → IsTrue b → b ≡ false → R
never true held e = (cc)
never false held e = (cc)

pub change_of-requires : goal.change_of-requires
change_of-requires c = record {
  has = search rules;
  spot = search rules;
  pen = c.is_shown_by_all.ensures.shown _ _ (search rules);
  one = search rules;
  written = search rules;
  several = search rules;
}

pub returns-then-not-is_shown_by_all-clause-undefined : goal.returns-then-not-is_shown_by_all-clause-undefined
returns-then-not-is_shown_by_all-clause-undefined c = λ motion on shown.
    never c.is_shown_by_all.result (c.is_shown_by_all.ensures.hidden _ _ shown) c.if-not-is_shown_by_all.true
