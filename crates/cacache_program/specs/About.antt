-- What the program says about itself.
use Rattle.std.specs.Prelude.{◌≡◌, ◌⊎◌, ℕ, List, [], ◌∷◌, ◌++◌, String, string_bytes, codes}

-- there is one word, and it is this
abbrev pub IsWord : {A : Type 0} → List (String A) → List ℕ → Type 0
IsWord (a ∷ []) word = string_bytes a ≡ word
IsWord words word = ⊥

-- it is `--help` or `-h`
abbrev pub AsksHelp : {A : Type 0} → List (String A) → Type 0
AsksHelp words = IsWord words (codes "--help") ⊎ IsWord words (codes "-h")

-- it is `--version` or `-V`
abbrev pub AsksVersion : {A : Type 0} → List (String A) → Type 0
AsksVersion words = IsWord words (codes "--version") ⊎ IsWord words (codes "-V")

-- what is said to wrong words
abbrev pub usage_text : List ℕ
usage_text =
    codes "usage: cacache write|read|find|remove CACHE KEY | ls|clear CACHE | storm THREADS KEYS\n"

-- a line for each word
abbrev pub words_text : List ℕ
words_text =
    codes "  write CACHE KEY             stores standard input under the key, and prints its integrity\n"
    ++ codes "  read CACHE KEY              prints what is stored under the key, once it is verified\n"
    ++ codes "  find CACHE KEY              prints the key's entry, or none\n"
    ++ codes "  remove CACHE KEY            removes the key's entry; what was stored stays\n"
    ++ codes "  ls CACHE                    prints the entries of all keys, each on a line\n"
    ++ codes "  clear CACHE                 removes all that lies in the folder of the cache\n"
    ++ codes "  storm THREADS KEYS          tries 1 to 64 threads in memory, with 1 to 1000 keys each\n"
    ++ codes "  store CACHE KEY FILE        stores the file under the key, in pieces, and prints its integrity\n"
    ++ codes "  copy CACHE KEY FILE         copies what is stored to the file, once it is verified, and prints its size\n"
    ++ codes "  write-hash CACHE ALGORITHM  stores standard input without a key, and prints its integrity;\n"
    ++ codes "                              the algorithm is sha1, sha256, sha384 or sha512\n"
    ++ codes "  read-hash CACHE INTEGRITY   prints what is stored with this integrity, once it is verified\n"
    ++ codes "  exists CACHE INTEGRITY      prints yes if something is stored with this integrity, and else no\n"
    ++ codes "  --why                       before these words: says in brackets why a call failed\n"
    ++ codes "  --help, -h                  prints this\n"
    ++ codes "  --version, -V               prints the version\n"

-- what is said to `--help`: the usage, and these lines
abbrev pub help_text : List ℕ
help_text = usage_text ++ words_text

-- the program's name and version, and that of the crate that it is a port of
abbrev pub version_text : List ℕ
version_text = codes "cacache 0.1.0 (a port of 13.1.0)\n"
