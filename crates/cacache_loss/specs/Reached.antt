-- Where a step may change something: the paths that it names, or that these lead to.
use Rattle.std.specs.{Prelude.{List, [], ◌∷◌, Option, None, Some}, Result.{result_ok}}
use Rattle.cacache_core.specs.Paths.{Names, names_of}
use Rattle.cacache_store.specs.{declared.store.step.Step.TheVariants.{MakeDirs, CreateTemp, Write, Persist, Append, Symlink, Copy, Reflink, HardLink, RemoveFile, RemoveDir}, Plain.{PlainStep}}
use Rattle.cacache_disk.specs.{LedTo.{writable}, Tree.{Tree}}
pub use Rattle.cacache_disk.specs.Tree.{fronts, is_among}

-- at most two paths
abbrev pub listed : Option Names → Option Names → List Names
listed None None = []
listed (Some first) None = first ∷ []
listed None (Some second) = second ∷ []
listed (Some first) (Some second) = first ∷ second ∷ []

-- those of a path, if there is one
abbrev pub fronts_of : Option Names → List Names
fronts_of None = []
fronts_of (Some path) = fronts [] path

-- the paths at which a step may change something
abbrev pub reached : Tree → PlainStep → List Names
reached t (MakeDirs p) = fronts_of (result_ok (names_of p))
reached t (CreateTemp p) = listed (result_ok (names_of p)) None
reached t (Write f bytes) = listed (result_ok (names_of f.path)) None
reached t (Persist f p) = listed (result_ok (names_of f.path)) (result_ok (names_of p))
reached t (Append p bytes) = listed (result_ok (writable t p)) None
reached t (Symlink target p) = listed (result_ok (names_of p)) None
reached t (Copy p to) = listed (result_ok (writable t to)) None
reached t (Reflink p to) = listed (result_ok (names_of to)) None
reached t (HardLink p to) = listed (result_ok (names_of to)) None
reached t (RemoveFile p) = listed (result_ok (names_of p)) None
reached t (RemoveDir p) = listed (result_ok (names_of p)) None
reached t step = []
