-- The names of the tags.
use Rattle.std.specs.Prelude.{ℕ, List, [], ◌∷◌, ◌++◌, codes, Option, Some, None, Bool, true, false, ◌==◌, drop}
use Rattle.std.specs.Prelude.{take, if◌then◌else◌, length, map}
use Rattle.std.specs.List.{range_with_len, slice_split, zip}
use Rattle.std.specs.Str.{str_eq_ignore_ascii_case}
use Rattle.rpm_tags.specs.declared.tag.Tag.{Tag}
use Rattle.rpm_tags.specs.declared.tag.Tag.TheVariants.{Stored, Nvra, Nevra, Evr, Nvr, Epochnum, Filenames, Dbinstance}

-- tags whose numbers follow each other from n on, by the text of their names, between which stand spaces (32)
abbrev pub from : ℕ → List ℕ → List (Tag × List ℕ)
from n text =
    let names = slice_split (λ b. b == 32) text in
    zip (map Stored (range_with_len n (length names))) names

-- each tag with its name, in the order in which names are looked for
unfoldable pub table : List (Tag × List ℕ)
table =
    from 257 (codes "SIGSIZE") ++ from 261 (codes "SIGMD5") ++ from 269 (codes "SHA1HEADER") ++
    from 273 (codes "SHA256HEADER") ++
    from 1000 (codes "NAME VERSION RELEASE EPOCH SUMMARY DESCRIPTION BUILDTIME BUILDHOST INSTALLTIME SIZE") ++
    from 1010 (codes "DISTRIBUTION VENDOR") ++ from 1014 (codes "LICENSE PACKAGER GROUP") ++
    from 1018 (codes "SOURCE PATCH URL OS ARCH PREIN POSTIN PREUN POSTUN") ++
    from 1028 (codes "FILESIZES FILESTATES FILEMODES") ++
    from 1033 (codes "FILERDEVS FILEMTIMES FILEDIGESTS FILELINKTOS FILEFLAGS") ++
    from 1039 (codes "FILEUSERNAME FILEGROUPNAME") ++
    from 1044 (codes "SOURCERPM FILEVERIFYFLAGS ARCHIVESIZE PROVIDENAME REQUIREFLAGS REQUIRENAME REQUIREVERSION") ++
    from 1053 (codes "CONFLICTFLAGS CONFLICTNAME CONFLICTVERSION") ++
    from 1064 (codes "RPMVERSION TRIGGERSCRIPTS TRIGGERNAME TRIGGERVERSION TRIGGERFLAGS TRIGGERINDEX") ++
    from 1080 (codes "CHANGELOGTIME CHANGELOGNAME CHANGELOGTEXT") ++
    from 1085 (codes "PREINPROG POSTINPROG PREUNPROG POSTUNPROG") ++ from 1090 (codes "OBSOLETENAME") ++
    from 1095 (codes "FILEDEVICES FILEINODES FILELANGS") ++
    from 1112 (codes "PROVIDEFLAGS PROVIDEVERSION OBSOLETEFLAGS OBSOLETEVERSION DIRINDEXES BASENAMES DIRNAMES") ++
    from 1122 (codes "OPTFLAGS DISTURL PAYLOADFORMAT PAYLOADCOMPRESSOR PAYLOADFLAGS") ++
    from 1128 (codes "INSTALLTID") ++ from 1132 (codes "PLATFORM") ++
    from 5046 (codes "RECOMMENDNAME RECOMMENDVERSION RECOMMENDFLAGS") ++
    (Nvr, codes "NVR") ∷ (Nvra, codes "NVRA") ∷ (Evr, codes "EVR") ∷ (Nevra, codes "NEVRA") ∷
    (Epochnum, codes "EPOCHNUM") ∷ (Filenames, codes "FILENAMES") ∷ (Dbinstance, codes "DBINSTANCE") ∷ []

-- ---- a name

-- the first tag of a table that has the name
unfoldable pub tag_in : List (Tag × List ℕ) → List ℕ → Option Tag
tag_in [] name = None
tag_in (row ∷ rows) name = if str_eq_ignore_ascii_case name row.1 then Some row.0 else tag_in rows name

-- the tag of a name, as a query format has it: the name may have a prefix, in capitals or not
abbrev pub tag_of : List ℕ → Option Tag
tag_of name =
    tag_in table (if str_eq_ignore_ascii_case (take 7 name) (codes "RPMTAG_") then drop 7 name else name)

-- ---- a tag

-- two tags are the same
abbrev pub is_tag : Tag → Tag → Bool
is_tag (Stored m) (Stored n) = m == n
is_tag Nvra Nvra = true
is_tag Nevra Nevra = true
is_tag Evr Evr = true
is_tag Nvr Nvr = true
is_tag Epochnum Epochnum = true
is_tag Filenames Filenames = true
is_tag Dbinstance Dbinstance = true
is_tag _ _ = false

-- the first name of a table that is the tag's
unfoldable pub name_in : List (Tag × List ℕ) → Tag → Option (List ℕ)
name_in [] tag = None
name_in (row ∷ rows) tag = if is_tag row.0 tag then Some row.1 else name_in rows tag

-- the name of a tag, and none of a number without a name
abbrev pub name_of : Tag → Option (List ℕ)
name_of tag = name_in table tag
