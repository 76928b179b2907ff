use Rattle.chain_laws.proofs.Images.{is_source, access_holds, accesses_own, chain_images}
use Rattle.chain_laws.proofs.laws.chain_image_law.Goals as goal

pub returns-clause-sources : goal.returns-clause-sources
returns-clause-sources c = is_source

pub returns-clause-access : goal.returns-clause-access
returns-clause-access c = access_holds

pub returns-clause-own : goal.returns-clause-own
returns-clause-own c = accesses_own

pub returns-clause-image : goal.returns-clause-image
returns-clause-image c = chain_images
