-- What a handle lends is what it held.
use Rattle.std.proofs.Common.{◌≡◌, ◌∙◌, ap, refl, sym, subst}
use Rattle.std.specs.Prelude.{Option, Some}
use Rattle.huttavel_c.specs.Asking.{Makes, MakesOfEntry}
use Rattle.huttavel_c.specs.declared.sessions.Described.{Described}
use Rattle.huttavel_c.specs.declared.sessions.Kept.{Kept}
use Rattle.huttavel_c.specs.declared.sessions.Kept.TheVariants.{Entry, Screen}
use Rattle.huttavel_c.specs.declared.sessions.Session.{Session}

-- A call on the screen that was held leaves another, which is held after it.
pub lent : {B : Type 0} (change : Session → Session → B → Type 0) (closed : B) (old : Option Kept) (answer : B) (kept : Kept) (session after : Session)
    → old ≡ Some kept → kept ≡ Screen session → change session after answer → Makes change closed old (Some (Screen after)) answer
lent change closed old answer kept session after held is called =
    subst (λ (o : Option Kept). Makes change closed o (Some (Screen after)) answer) (sym (held ∙ ap (λ (k : Kept). Some k) is)) called

-- What was held stays, if it is an entry.
pub entry_stays : {B : Type 0} (change : Session → Session → B → Type 0) (closed : B) (old : Option Kept) (kept : Kept) (entry : Described)
    → old ≡ Some kept → kept ≡ Entry entry → Makes change closed old (Some kept) closed
entry_stays change closed old kept entry held is =
    subst (λ (o : Option Kept). Makes change closed o (Some kept) closed) (sym held)
    (subst (λ (k : Kept). Makes change closed (Some k) (Some k) closed) (sym is) (refl, refl))

-- The same, of a call on an entry.
pub lent_entry : {B : Type 0} (change : Described → Described → B → Type 0) (closed : B) (old : Option Kept) (answer : B) (kept : Kept) (entry after : Described)
    → old ≡ Some kept → kept ≡ Entry entry → change entry after answer → MakesOfEntry change closed old (Some (Entry after)) answer
lent_entry change closed old answer kept entry after held is called =
    subst (λ (o : Option Kept). MakesOfEntry change closed o (Some (Entry after)) answer) (sym (held ∙ ap (λ (k : Kept). Some k) is)) called

pub screen_stays : {B : Type 0} (change : Described → Described → B → Type 0) (closed : B) (old : Option Kept) (kept : Kept) (session : Session)
    → old ≡ Some kept → kept ≡ Screen session → MakesOfEntry change closed old (Some kept) closed
screen_stays change closed old kept session held is =
    subst (λ (o : Option Kept). MakesOfEntry change closed o (Some kept) closed) (sym held)
    (subst (λ (k : Kept). MakesOfEntry change closed (Some k) (Some k) closed) (sym is) (refl, refl))
