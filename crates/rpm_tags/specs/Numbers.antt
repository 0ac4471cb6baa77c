-- The numbers of the tags that the definitions read, as the code has them in src/numbers.rt.
pub use Rattle.rpm_tags.specs.declared.numbers.TheConstants.{NAME, VERSION, RELEASE, EPOCH, GROUP, ARCH, PROVIDENAME}
pub use Rattle.rpm_tags.specs.declared.numbers.TheConstants.{REQUIREFLAGS, REQUIRENAME, REQUIREVERSION, CONFLICTFLAGS}
pub use Rattle.rpm_tags.specs.declared.numbers.TheConstants.{CONFLICTNAME, CONFLICTVERSION, TRIGGERNAME, OBSOLETENAME}
pub use Rattle.rpm_tags.specs.declared.numbers.TheConstants.{PROVIDEFLAGS, PROVIDEVERSION, OBSOLETEFLAGS}
pub use Rattle.rpm_tags.specs.declared.numbers.TheConstants.{OBSOLETEVERSION, DIRINDEXES, BASENAMES, DIRNAMES}
pub use Rattle.rpm_tags.specs.declared.numbers.TheConstants.{INSTALLTID, RECOMMENDNAME, RECOMMENDVERSION}
pub use Rattle.rpm_tags.specs.declared.numbers.TheConstants.{RECOMMENDFLAGS}
