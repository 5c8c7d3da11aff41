-- Where the compiled entry of a name is looked for. terminfo(5), 'Fetching Compiled Descriptions'; term(5), 'Storage
-- Location'.
use Rattle.std.specs.Prelude.{ℕ, Bool, false, List, [], ◌∷◌, ◌++◌, length, map, take, slice_index_or, Option, Some, None, ◌+◌, ◌-◌, ◌/◌, ◌%◌, ◌==◌, ◌&&◌, not, nat_le, nat_lt, codes, if◌then◌else◌}
use Rattle.std.specs.List.{flat_map, list_all, slice_split}
use Rattle.ti_database.specs.declared.folders.Variables.{Variables}

-- A graphic character of ASCII, but no slash.
abbrev pub is_file_byte : ℕ → Bool
is_file_byte b = (nat_le 33 b && nat_le b 126) && not (b == 47)

-- The names `.` and `..`, which stand for folders.
abbrev pub is_dots : List ℕ → Bool
is_dots (b ∷ []) = b == 46
is_dots (b ∷ c ∷ []) = b == 46 && c == 46
is_dots _ = false

-- A name by which an entry can be looked up.
abbrev pub is_terminal_name : List ℕ → Bool
is_terminal_name name = not (length name == 0) && list_all is_file_byte name && not (is_dots name)

-- What a variable says; nothing if it is not set.
abbrev pub text_of : Option (List ℕ) → List ℕ
text_of None = []
text_of (Some text) = text

-- The folder that a variable names; none if it says nothing.
abbrev pub given : List ℕ → List (List ℕ)
given [] = []
given (b ∷ bs) = (b ∷ bs) ∷ []

-- The folder `.terminfo` in a home; none if there is no home.
abbrev pub home_folder : List ℕ → List (List ℕ)
home_folder home = map (λ folder. folder ++ codes "/.terminfo") (given home)

-- The folders of the system.
abbrev pub system_folders : List (List ℕ)
system_folders = codes "/etc/terminfo" ∷ codes "/lib/terminfo" ∷ codes "/usr/share/terminfo" ∷ []

-- What an element of a list of folders stands for: itself, or the folders of the system if it is empty.
abbrev pub element_folders : List ℕ → List (List ℕ)
element_folders [] = system_folders
element_folders (b ∷ bs) = (b ∷ bs) ∷ []

-- The colon that separates two elements.
abbrev pub is_colon : ℕ → Bool
is_colon b = b == 58

-- The folders of a list; none if there is no list.
abbrev pub listed : List ℕ → List (List ℕ)
listed [] = []
listed (b ∷ bs) = flat_map element_folders (slice_split is_colon (b ∷ bs))

-- The folders to look in, in order.
abbrev pub folders_of : Variables → List (List ℕ)
folders_of variables =
    given (text_of variables.terminfo) ++ home_folder (text_of variables.home) ++ listed (text_of variables.terminfo_dirs)
    ++ system_folders

-- The folder to look in first.
abbrev pub first_folder_of : Variables → List ℕ
first_folder_of variables = slice_index_or (folders_of variables) 0 []

-- A path through two folders.
abbrev pub path_below : List ℕ → List ℕ → List ℕ → List ℕ
path_below folder inner name = folder ++ codes "/" ++ inner ++ codes "/" ++ name

-- A lower-case hexadecimal digit.
abbrev pub hexadecimal_digit : ℕ → ℕ
hexadecimal_digit value = if nat_lt value 10 then 48 + value else 97 + (value - 10)

-- The two digits of a byte.
abbrev pub hexadecimal : ℕ → List ℕ
hexadecimal b = hexadecimal_digit (b / 16) ∷ hexadecimal_digit (b % 16) ∷ []

-- The paths of a name in a folder: below the name's first letter, and below that letter's code.
abbrev pub paths_in : List ℕ → List ℕ → List (List ℕ)
paths_in folder name =
    path_below folder (take 1 name) name ∷ path_below folder (hexadecimal (slice_index_or name 0 0)) name ∷ []

-- The paths to look at, in order.
abbrev pub paths_of : Variables → List ℕ → List (List ℕ)
paths_of variables name = flat_map (λ folder. paths_in folder name) (folders_of variables)
