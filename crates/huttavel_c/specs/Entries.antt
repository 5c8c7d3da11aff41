-- Entries and parameter strings without a screen. terminfo(5), 'Parameterized Strings'; term(5).
use Rattle.std.specs.Prelude.{ℕ, ℤ, pos, ◌≡◌, ◌⊎◌, ◌++◌, List, [], ◌∷◌, drop, length, min, replicate, take, Option, Some, None, IsSome}
use Rattle.ti_caps.specs.Description.{Description}
use Rattle.ti_caps.specs.declared.table.Kind.{Kind}
use Rattle.ti_param.specs.Faults.{FaultOf}
use Rattle.ti_param.specs.Grammar.{IsText}
use Rattle.ti_param.specs.Runs.{HasWritten}
use Rattle.ti_param.specs.States.{Outcome}
use Rattle.ti_param.specs.Tree.{Tree, start, value}
use Rattle.ti_param.specs.declared.faults.ParamFault.{ParamFault}
use Rattle.ti_param.specs.declared.faults.ParamFault.TheVariants as texts
use Rattle.huttavel_c.specs.Opening.{kind_number}
use Rattle.huttavel_c.specs.Replies.{no_length, refused, with_one, with_two}
use Rattle.huttavel_c.specs.declared.answers.Reply.{Reply}
use Rattle.huttavel_c.specs.declared.answers.Length.{Length}
use Rattle.huttavel_c.specs.declared.entries.Numbers.{Numbers}
use Rattle.huttavel_c.specs.declared.sessions.Described.{Described}

-- An entry that was just opened: its static variables are 0.
abbrev pub IsFresh : (Description → Type 0) → Described → Type 0
IsFresh IsKnown described = IsKnown described.entry × (described.vars ≡ replicate 26 (pos 0))

-- What is asked of an entry. Nothing changes.
abbrev pub Tells : {B : Type 0} → (Description → B) → Described → Described → B → Type 0
Tells told old new answer = (new ≡ old) × (answer ≡ told old.entry)

-- A number of the entry; 58 without one.
abbrev pub number_reply : Option ℕ → Reply
number_reply None = refused 58
number_reply (Some number) = with_one number

-- The kind and the position of a name's capability; 58 if no capability has the name.
abbrev pub capability_reply : Option (Kind × ℕ) → Reply
capability_reply None = refused 58
capability_reply (Some capability) = with_two (kind_number capability.0, capability.1)

-- A text is copied as far as there is room, and its length is the answer.
abbrev pub IsCopied : List ℕ → List ℕ → List ℕ → Length → Type 0
IsCopied text before after answer =
    (answer ≡ record { fault = 0; count = length text })
    × (after ≡ take (min (length text) (length before)) text ++ drop (min (length text) (length before)) before)

-- The same of a text that may be absent.
abbrev pub IsCopiedIfAny : Option (List ℕ) → List ℕ → List ℕ → Length → Type 0
IsCopiedIfAny None before after answer = (after ≡ before) × (answer ≡ no_length 58)
IsCopiedIfAny (Some text) before after answer = IsCopied text before after answer

-- A text of an entry is copied. Nothing of the entry changes.
abbrev pub CopiesText : (Description → Option (List ℕ)) → List ℕ → List ℕ → Described → Described → Length → Type 0
CopiesText text before after old new answer = (new ≡ old) × IsCopiedIfAny (text old.entry) before after answer

-- Why a text is not a parameter string.
abbrev pub param_number : ParamFault → ℕ
param_number (texts.Truncated at) = 60
param_number (texts.BadDirective at) = 61
param_number (texts.StringOperator at) = 62
param_number texts.TooDeep = 63
param_number texts.NoMemory = 4

-- The nine parameters.
abbrev pub list_of : Numbers → List ℤ
list_of n = n.first ∷ n.second ∷ n.third ∷ n.fourth ∷ n.fifth ∷ n.sixth ∷ n.seventh ∷ n.eighth ∷ n.ninth ∷ []

-- Nothing was written, for this error.
abbrev pub IsRefused : ℕ → List ℕ → List ℕ → Described → Described → Length → Type 0
IsRefused fault before after old new answer = (new ≡ old) × (after ≡ before) × (answer ≡ no_length fault)

-- A run of a parameter string: its text is copied, and its static variables stay; or the stack was full, or memory ran
-- out.
abbrev pub IsRun : Outcome → List ℕ → List ℕ → Described → Described → Length → Type 0
IsRun outcome before after old new answer =
    ((bytes : List ℕ) × HasWritten outcome bytes new.vars × (new.entry ≡ old.entry) × IsCopied bytes before after answer)
    ⊎ ((outcome ≡ None) × IsRefused 59 before after old new answer)
    ⊎ (IsSome outcome × IsRefused 4 before after old new answer)

-- A text with parameters: it is not a parameter string, or memory ran out; or it is one, and it is run with the static
-- variables of the entry.
abbrev pub Expands : List ℕ → List ℤ → List ℕ → List ℕ → Described → Described → Length → Type 0
Expands text params before after old new answer =
    ((fault : ParamFault) × FaultOf fault text × IsRefused (param_number fault) before after old new answer)
    ⊎ ((tree : Tree) × IsText tree text × IsRun (value tree (start params old.vars)) before after old new answer)
