-- What is known about files.
use Rattle.std.specs.Prelude.{◌≡◌, ◌≢◌, ◌<◌, ℕ, List, ◌∷◌, ◌++◌, Option, IfSome, length, slice_index}

-- The bytes of the file at each path, if they are known.
abbrev pub Contents : Type 0
Contents = (path : List ℕ) → Option (List ℕ)

-- These are the bytes of the file at a path, if its bytes are known.
abbrev pub AreBytesOf : Contents → (path bytes : List ℕ) → Type 0
AreBytesOf contents path bytes = IfSome (contents path) (λ known. bytes ≡ known)

-- No byte of a text is a slash.
abbrev pub HasNoSlash : (text : List ℕ) → Type 0
HasNoSlash text = (i : ℕ) → i < length text → slice_index text i ≢ 47

-- The path of a name beside another path: that path up to and including its last slash, if it has one, followed by the name.
pub data IsBeside (path name beside : List ℕ) : Type 0 where
  in_folder : (folder rest : List ℕ) → path ≡ folder ++ (47 ∷ rest) → HasNoSlash rest
      → beside ≡ folder ++ (47 ∷ name) → IsBeside path name beside
  in_no_folder : HasNoSlash path → beside ≡ name → IsBeside path name beside

-- A file that the script at a path names, with its name and its bytes.
abbrev pub IsNamedFile : Contents → (path : List ℕ) → (file : List ℕ × List ℕ) → Type 0
IsNamedFile contents path file =
    (beside : List ℕ) × IsBeside path file.0 beside × AreBytesOf contents beside file.1
