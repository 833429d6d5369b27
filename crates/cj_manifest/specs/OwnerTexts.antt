-- An owner reference whose texts are borrowed from a manifest, as a reference.
use Rattle.cj_types.specs.declared.owners.OwnerRef.{OwnerRef}
use Rattle.cj_manifest.specs.declared.owner.OwnerTexts.{OwnerTexts}

abbrev pub owner_view : OwnerTexts → OwnerRef
owner_view o = record {
  api_version = o.api_version.now;
  kind = o.kind.now;
  name = o.name.now;
  uid = o.uid.now;
  controller = o.controller;
  block_owner_deletion = o.block_owner_deletion;
}
