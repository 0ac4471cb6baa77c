-- The three files under what is held of them.
use Rattle.std.specs.Prelude.{◌≡◌, refl}
use Rattle.rpm_outside.specs.declared.disk.File.{File}
use Rattle.rpm_outside.specs.declared.disk.File.TheVariants.{Pkg, Idx, Log}
use Rattle.rpm_outside.specs.Files.{Units, Files, file_of}
use Rattle.rpm_group.specs.declared.layers.Layers.{Layers}
use Rattle.rpm_group.specs.declared.pages.Pages.{Pages}
use Rattle.rpm_group.specs.Held.{laid_units}

-- the pages over one of the three files
abbrev pub pages_of : File → Layers → Pages
pages_of Pkg layers = layers.pkg
pages_of Idx layers = layers.idx
pages_of Log layers = layers.log

-- a file under its pages
abbrev pub laid_file : Pages → Units → Units
laid_file pages file = laid_units pages.table.items pages.end file

-- the three files under their pages
abbrev pub laid_files : Layers → Files → Files
laid_files layers files =
    record {
      pkg = laid_file layers.pkg files.pkg;
      idx = laid_file layers.idx files.idx;
      log = laid_file layers.log files.log;
    }

pub file_of-laid : (file : File) (layers : Layers) (files : Files)
    → file_of file (laid_files layers files) ≡ laid_file (pages_of file layers)
    (file_of file files)
file_of-laid Pkg layers files = refl
file_of-laid Idx layers files = refl
file_of-laid Log layers files = refl
