-- Sets of attributes, as numbers whose bits are the members. X/Open Curses Issue 7, 'Attributes'.
use Rattle.std.specs.Prelude.{ℕ, List, [], ◌∷◌, ◌==◌, ◌-◌, filter, bit_and, bit_or, if◌then◌else◌}

-- The attributes, in the order in which `sgr` takes them.
abbrev pub standout : ℕ
standout = 1

abbrev pub underline : ℕ
underline = 2

abbrev pub reverse : ℕ
reverse = 4

abbrev pub blink : ℕ
blink = 8

abbrev pub dim : ℕ
dim = 16

abbrev pub bold : ℕ
bold = 32

abbrev pub invis : ℕ
invis = 64

-- All seven, in that order.
abbrev pub all_attributes : List ℕ
all_attributes = standout ∷ underline ∷ reverse ∷ blink ∷ dim ∷ bold ∷ invis ∷ []

-- The set of all seven.
abbrev pub every_attribute : ℕ
every_attribute = 127

-- The attributes of a set, one by one, in the same order.
abbrev pub attributes_of : ℕ → List ℕ
attributes_of set = filter (λ a. bit_and set a == a) all_attributes

-- The negative of a set, as seen on a terminal that shows standout as reverse: reverse in place of standout.
abbrev pub negative_set : ℕ → ℕ
negative_set set = if bit_and set standout == standout then bit_or (set - standout) reverse else set
