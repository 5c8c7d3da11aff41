-- Where the compiled files of an entry stand (term(5), 'Storage Location').
use Rattle.std.specs.Prelude.{ℕ, Bool, false, List, [], ◌∷◌, ◌++◌, take, ◌==◌, ◌&&◌, not}
use Rattle.std.specs.List.{list_any}

-- The byte is a slash.
abbrev pub is_slash : ℕ → Bool
is_slash b = b == 47

-- The names `.` and `..`, which stand for folders.
abbrev pub is_dots : List ℕ → Bool
is_dots (b ∷ []) = b == 46
is_dots (b ∷ c ∷ []) = b == 46 && c == 46
is_dots _ = false

-- A name that a file can have.
abbrev pub is_file_name : List ℕ → Bool
is_file_name name = not (list_any is_slash name) && not (is_dots name)

-- The path of a name's file: a folder named after its first byte, then the name.
abbrev pub path_of : List ℕ → List ℕ
path_of name = take 1 name ++ 47 ∷ name
