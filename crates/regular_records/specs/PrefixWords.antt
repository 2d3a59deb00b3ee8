-- The newest words on the prefixes of a path.
use Rattle.std.specs.Prelude.{◌≡◌, ℕ, ◌<◌, ◌≤◌, List, Option, None, suc, length, take, option_map, IfSome, slice_index_or}
use Rattle.doc_path.specs.Path.{Parts}
use Rattle.regular_records.specs.declared.word.Word.{Word}
use Rattle.regular_records.specs.declared.prefix_words.PrefixWords.{PrefixWords}
use Rattle.regular_records.specs.Store.{VersionStore, first_at, path_versions_at, newest_upto, word_version}

-- the newest version up to t at the prefix of n + 1 parts alone
abbrev pub IsOwnWord : ℕ → Parts → VersionStore → ℕ → Option Word → Type 0
IsOwnWord t p store n o =
    (option_map (word_version p) o ≡ first_at t (take (suc n) p) (path_versions_at (take (suc n) p) store))
    × IfSome o (λ (w : Word). w.parts ≡ suc n)

-- the newest version up to t at the first n + 1 prefixes
abbrev pub IsWord : ℕ → Parts → VersionStore → ℕ → Option Word → Type 0
IsWord t p store n o = (option_map (word_version p) o ≡ newest_upto t p store (suc n)) × IfSome o (λ (w : Word). w.parts ≤ suc n)

-- the first words of a path
abbrev pub AreFirstWords : ℕ → Parts → VersionStore → List (Option Word) → Type 0
AreFirstWords t p store ws = (n : ℕ) → n < length ws → IsWord t p store n (slice_index_or ws n None)

-- all words of a path
abbrev pub AreWords : ℕ → VersionStore → PrefixWords → Type 0
AreWords t store all = AreFirstWords t all.path.now store all.words.items × (length all.words.items ≡ length all.path.now)
