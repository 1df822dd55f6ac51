-- What contracts see of the files of real folders. Their bytes are not known.
use Rattle.std.specs.Prelude.{None}
use Rattle.cacache_store.specs.declared.store.plain.{PlainFile.{PlainFile}, PlainTemp.{PlainTemp}}
use Rattle.cacache_folder.specs.declared.folder.{opened.SystemFile.{SystemFile}, temp.SystemTemp.{SystemTemp}}

-- an open file
abbrev pub seen_file : {Y F D : Type 0} → SystemFile Y F D → PlainFile
seen_file f = record { left = f.left; bytes = None }

-- a temporary file
abbrev pub seen_temp : {Y F D : Type 0} → SystemTemp Y F D → PlainTemp
seen_temp t = record { path = t.path; bytes = None }
