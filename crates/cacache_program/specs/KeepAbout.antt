-- What the program says about itself.
use Rattle.std.specs.Prelude.{ℕ, List, ◌++◌, codes}

-- what is said to wrong words
abbrev pub usage_text : List ℕ
usage_text = codes "usage: cacache-keep verify|collect CACHE\n"

-- a line for each word
abbrev pub words_text : List ℕ
words_text =
    codes "  verify CACHE   counts good and damaged contents, entries without one, and other files;\n"
    ++ codes "                 the status is 3 if there are any but good contents\n"
    ++ codes "  verify --list CACHE\n"
    ++ codes "                 the same, and after it a line for each but the good contents, which names it,\n"
    ++ codes "                 and for each bucket with lines that can't be read here;\n"
    ++ codes "                 in a path, \\\\ stands for \\, and \\x and two hex digits for a control character\n"
    ++ codes "  collect CACHE  removes the contents that no entry has, and counts the kept and the dropped\n"
    ++ codes "  collect --grace SECONDS --keep FILE --durable --anyway CACHE\n"
    ++ codes "                 the same with any of these, and counts also the young and those that were gone:\n"
    ++ codes "                 leaves what changed in the last SECONDS, or what a line of FILE names; syncs the\n"
    ++ codes "                 index first; goes on if the index has lines that can't be read here\n"
    ++ codes "  plan CACHE     counts what collect would keep and drop, and changes nothing; it names\n"
    ++ codes "                 each bucket with lines that can't be read here\n"
    ++ codes "  sweep CACHE    removes temporary files, and counts them, their bytes, and other files there\n"
    ++ codes "  repair CACHE   removes damaged contents, and the keys that lead to none, and counts both\n"
    ++ codes "  repair --anyway CACHE\n"
    ++ codes "                 the same, even if the index has lines that can't be read here\n"
    ++ codes "  compact CACHE  writes the index anew without old lines, and counts the buckets and bytes saved\n"
    ++ codes "  compact --durable CACHE\n"
    ++ codes "                 the same, and syncs what it leaves, so that it outlasts a loss of power\n"
    ++ codes "  touch KEY CACHE\n"
    ++ codes "                 marks the key as used now, so that prune counts it as new; says how many that was\n"
    ++ codes "  prune BYTES SECONDS CACHE\n"
    ++ codes "                 drops the oldest entries, until the others have at most so many bytes and none\n"
    ++ codes "                 is older than so many seconds, or - for no limit, and collects the cache;\n"
    ++ codes "                 it says how many bytes all entries had, and those have that stay, and names the dropped ones;\n"
    ++ codes "                 --grace, --keep and --durable are as with collect; what couldn't be dropped is named as left,\n"
    ++ codes "                 and the status is 1; units are K, M and G of 1024, and s, m, h and d, as in 300M and 30d\n"
    ++ codes "  plan-prune BYTES SECONDS CACHE\n"
    ++ codes "                 says what prune would drop, and changes nothing; it also names each bucket with\n"
    ++ codes "                 lines that can't be read here\n"
    ++ codes "  tidy --size BYTES --age SECONDS --grace SECONDS --keep FILE CACHE\n"
    ++ codes "                 sweeps, prunes within these limits if there are any, compacts and collects;\n"
    ++ codes "                 each prints what it prints alone, collect also young and gone; none comes after one that failed\n"
    ++ codes "  --why          before these words: says in brackets why a call failed\n"
    ++ codes "  --help, -h     prints this\n"
    ++ codes "  --version, -V  prints the version\n"

-- what is said to `--help`: the usage, and these lines
abbrev pub help_text : List ℕ
help_text = usage_text ++ words_text

-- the program's name and version, and that of the crate that the calls are a port of
abbrev pub version_text : List ℕ
version_text = codes "cacache-keep 0.1.0 (a port of 13.1.0)\n"
