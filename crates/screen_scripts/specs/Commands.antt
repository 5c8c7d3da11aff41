-- What a line of a script says.
use Rattle.std.specs.Prelude.{ℕ, List, [], ◌∷◌, Option, Some, None, option_and_then, option_map, codes, if◌then◌else◌}
use Rattle.std.specs.Str.{bytes_eq}
use Rattle.screen_scripts.specs.declared.commands.Command.{Command}
use Rattle.screen_scripts.specs.declared.commands.Command.TheVariants.{Size, Add, Show, Make, Key, Text, Idle}
use Rattle.screen_calls.specs.Fields.{cut, field_and_text, hexadecimal_bytes, number}
use Rattle.screen_calls.specs.ShortCalls.{call_of}

-- a word alone
abbrev pub word_alone : Command → Option (List ℕ) → Option Command
word_alone command None = Some command
word_alone command (Some text) = None

-- the last field of a text, where no more follows it
abbrev pub last_of : List ℕ × Option (List ℕ) → Option (List ℕ)
last_of (field, None) = Some field
last_of (field, Some rest) = None

-- `size`: rows and columns
abbrev pub size_read : Option (List ℕ) → Option Command
size_read text =
    option_and_then (λ parts. option_and_then (λ last. option_and_then (λ rows. option_map (λ columns. Size rows columns) (number last)) (number parts.0)) (last_of (cut parts.1))) (field_and_text text)

-- `add`: a row, a column and a text
abbrev pub addition : Option (List ℕ) → Option Command
addition text =
    option_and_then (λ first. option_and_then (λ second. option_and_then (λ row. option_map (λ column. Add row column second.1) (number second.0)) (number first.0)) (field_and_text (Some first.1))) (field_and_text text)

-- `text`: a window and a text of characters
abbrev pub string_command : Option (List ℕ) → Option Command
string_command text = option_and_then (λ parts. option_map (λ w. Text w parts.1) (number parts.0)) (field_and_text text)

-- `key`: bytes from the keyboard
abbrev pub key_bytes : Option (List ℕ) → Option Command
key_bytes text = option_map (λ bytes. Key bytes) (option_and_then hexadecimal_bytes text)

-- the words of scripts, each with what is made of all that follows the blank after it, where there is one
abbrev pub own_words : List (List ℕ × (Option (List ℕ) → Option Command))
own_words =
    (codes "size", size_read)
    ∷ (codes "add", addition)
    ∷ (codes "text", string_command)
    ∷ (codes "key", key_bytes)
    ∷ (codes "show", word_alone Show)
    ∷ (codes "idle", word_alone Idle)
    ∷ []

-- what a word makes of the text behind it; by a word that is not of these, something else
abbrev pub by_word : List (List ℕ × (Option (List ℕ) → Option Command)) → List ℕ → Option (List ℕ) → Option Command → Option Command
by_word [] word text other = other
by_word (row ∷ rows) word text other = if bytes_eq word row.0 then row.1 text else by_word rows word text other

-- every other line is a call by its short name
unfoldable pub command_of : List ℕ → Option Command
command_of line = by_word own_words (cut line).0 (cut line).1 (option_map (λ call. Make call) (call_of line))
